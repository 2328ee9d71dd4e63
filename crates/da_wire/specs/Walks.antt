-- Walking over bytes: values one after another, each read at the front of the bytes that are left.
use Rattle.std.specs.Prelude.{ℕ, zero, suc, ◌-◌, List, [], ◌∷◌, Option, Some, None}
use Rattle.std.specs.Option.{option_map_or}

-- the values that a reader finds, up to the first place at which it finds none; a reader gives a value
-- and its length, and the first `skip` bytes belong to the value before
unfoldable pub walk_from : {A : Type 0} → (List ℕ → Option (A × ℕ)) → ℕ → List ℕ → List A
walk_from one skip [] = []
walk_from one (suc skip) (byte ∷ rest) = walk_from one skip rest
walk_from one zero (byte ∷ rest) =
    option_map_or (λ x. x.0 ∷ walk_from one (x.1 - 1) rest) (one (byte ∷ rest)) []

-- the offset of the first place at which it finds none though bytes are left, none where there is no
-- such place; `at` is the offset of these bytes
unfoldable pub stop_from : {A : Type 0} → (List ℕ → Option (A × ℕ)) → ℕ → ℕ → List ℕ → Option ℕ
stop_from one skip at [] = None
stop_from one (suc skip) at (byte ∷ rest) = stop_from one skip (suc at) rest
stop_from one zero at (byte ∷ rest) =
    option_map_or (λ x. stop_from one (x.1 - 1) (suc at) rest) (one (byte ∷ rest)) (Some at)
