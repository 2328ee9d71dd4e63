-- What holds of each of a list.
use Rattle.std.proofs.Common.{ℕ, zero, suc, List, [], ◌∷◌, ◌++◌, slice_get}
use Rattle.std.specs.Prelude.{IfSome}
use Rattle.std.specs.List.{AllByRecursion}

module _ {X : Type 0} (P : X → Type 0) where
  -- what holds of each holds at each place
  pub each_at : (xs : List X) → AllByRecursion P xs → (i : ℕ) → IfSome (slice_get xs i) P
  each_at [] all i = tt
  each_at (x ∷ xs) all zero = all.0
  each_at (x ∷ xs) all (suc i) = each_at xs all.1 i

  -- and of what stands between two parts
  pub each_between : (front : List X) (x : X) (back : List X) → AllByRecursion P (front ++ x ∷ back) → P x
  each_between [] x back all = all.0
  each_between (y ∷ front) x back all = each_between front x back all.1
