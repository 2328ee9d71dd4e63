-- Elements of lists.
use Rattle.std.proofs.Common.{◌≡◌, zero, suc, List, [], ◌∷◌, refl, inl, inr, arith}
use Rattle.std.specs.Prelude.{◌⊎◌}
use Rattle.std.specs.List.{Contains}

module _ {A : Type 0} where
  -- the first element
  pub contains_head : (x : A) (xs : List A) → Contains (x ∷ xs) x
  contains_head x xs = (0, omega arith, refl)

  -- a later one
  pub contains_tail : (x y : A) (xs : List A) → Contains xs y → Contains (x ∷ xs) y
  contains_tail x y xs (i, h, e) = (suc i, omega arith, e)

  -- an empty list has none
  pub contains_none : (y : A) → Contains [] y → ⊥
  contains_none y (i, h, e) = absurd (omega arith)

  -- an element is the first or a later one
  pub contains_cons : (x y : A) (xs : List A) → Contains (x ∷ xs) y → (x ≡ y) ⊎ Contains xs y
  contains_cons x y xs (zero, h, e) = inl e
  contains_cons x y xs (suc i, h, e) = inr (i, omega arith, e)
