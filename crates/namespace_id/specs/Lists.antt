-- Facts of lists.
use Rattle.std.specs.Prelude.{Bool, true, ◌&&◌, List, [], ◌∷◌, ℕ, zero, suc}

-- whether a test holds of each element and the one after it
unfoldable pub holds_along : {A : Type 0} → (A → A → Bool) → List A → Bool
holds_along test [] = true
holds_along test (a ∷ []) = true
holds_along test (a ∷ b ∷ rest) = test a b && holds_along test (b ∷ rest)

-- n numbers from the first on
unfoldable pub ascending : ℕ → ℕ → List ℕ
ascending first zero = []
ascending first (suc n) = first ∷ ascending (suc first) n
