-- Lists of the values of a function.
use Rattle.std.proofs.Common.{◌≡◌, ℕ, zero, suc, ◌<◌, List, [], ◌∷◌, length, refl, ap, arith}
use Rattle.std.specs.Prelude.{IfSome, slice_get}
use Rattle.namespace_id.specs.declared.shares.Share.{Share}
use Rattle.namespace_id.specs.Shares.{IsShare, AreShares}

-- a list by its elements
unfoldable pub listed : {A : Type 0} → ℕ → (ℕ → A) → List A
listed zero f = []
listed (suc n) f = f 0 ∷ listed n (λ i. f (suc i))

-- a list of n values of a function has n
pub length-listed : {A : Type 0} (n : ℕ) (f : ℕ → A) → length (listed n f) ≡ n
unfolding listed
length-listed zero f = refl
length-listed (suc n) f = ap suc (length-listed n (λ i. f (suc i)))

-- shares that are listed are shares
pub AreShares-listed : (n : ℕ) (f : ℕ → Share) → ((i : ℕ) → IsShare (f i)) → AreShares (listed n f)
unfolding listed
AreShares-listed zero f h = tt
AreShares-listed (suc n) f h = (h 0, AreShares-listed n (λ i. f (suc i)) (λ i. h (suc i)))

-- what holds of a value holds at its place in the list
pub listed-at : (P : Share → Type 0) (n : ℕ) (f : ℕ → Share) (i : ℕ) → i < n → P (f i) → IfSome (slice_get (listed n f) i) P
unfolding listed
listed-at P zero f i h p = absurd (omega arith)
listed-at P (suc n) f zero h p = p
listed-at P (suc n) f (suc i) h p = listed-at P n (λ j. f (suc j)) i (omega arith) p
