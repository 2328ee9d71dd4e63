-- Elements of lists by their places.
use Rattle.std.proofs.Common.{◌≡◌, ℕ, zero, suc, ◌+◌, ◌<◌, List, [], ◌∷◌, ◌++◌, length, Some, slice_get, refl, sym, inl, inr, arith}
use Rattle.std.specs.Prelude.{◌⊎◌}
use Rattle.std.specs.List.{Contains}
use Rattle.std.proofs.lemmas.Option.{slice_get_read, slice_get_within, get_or_from_slice_get}

module _ {A : Type 0} where
  -- what stands at a place is in the list
  pub listed_at : (xs : List A) (i : ℕ) (x : A) → slice_get xs i ≡ Some x → Contains xs x
  listed_at xs i x e = (i, slice_get_within xs i x e, get_or_from_slice_get xs i x x e)

  -- what is in a list stands at a place
  pub place_of : (xs : List A) (x : A) → Contains xs x → (i : ℕ) × (i < length xs) × (slice_get xs i ≡ Some x)
  place_of xs x (i, below, e) = (i, below, slice_get_read xs (length xs) i x refl below (sym e))

  -- what stands at a place of two lists
  pub place_cases : (xs ys : List A) (i : ℕ) (x : A) → slice_get (xs ++ ys) i ≡ Some x
      → (slice_get xs i ≡ Some x) ⊎ ((j : ℕ) × (i ≡ length xs + j) × (slice_get ys j ≡ Some x))
  place_cases [] ys i x e = inr (i, omega arith, e)
  place_cases (y ∷ xs) ys zero x e = inl e
  place_cases (y ∷ xs) ys (suc i) x e = elim (place_cases xs ys i x e) [
    | inl front ↦ inl front
    | inr (j, is, at) ↦ inr (j, omega arith, at)
  ]

  -- what stands at a place of the first one
  pub place_front : (xs ys : List A) (i : ℕ) → i < length xs → slice_get (xs ++ ys) i ≡ slice_get xs i
  place_front [] ys i below = absurd (omega arith)
  place_front (x ∷ xs) ys zero below = refl
  place_front (x ∷ xs) ys (suc i) below = place_front xs ys i (omega arith)
