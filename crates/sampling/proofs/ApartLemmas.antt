-- Lists without repeats, and what is taken out of them.
use Rattle.std.proofs.Common.{◌≡◌, ◌≢◌, ℕ, zero, suc, ◌<◌, List, [], ◌∷◌, length, get_or, Bool, true, refl, sym, ap, arith}
use Rattle.std.specs.Prelude.{Some, slice_get, ⊤}
use Rattle.std.specs.List.{remove, AllByRecursion, list_all}
use Rattle.std.proofs.lemmas.Bool.{and_parts, and_from}
use Rattle.std.proofs.lemmas.List.Elements.{All-from_recursion}
use Rattle.namespace_id.proofs.ElementLemmas.{all_at}

module _ {A : Type 0} where
  -- no element stands again behind itself
  abbrev pub AreOnce : List A → Type 0
  AreOnce [] = ⊤
  AreOnce (x ∷ xs) = AllByRecursion (λ y. x ≢ y) xs × AreOnce xs

  -- what holds of all holds of all but one
  pub all-remove : (P : A → Type 0) (xs : List A) (i : ℕ) → AllByRecursion P xs → AllByRecursion P (remove xs i)
  all-remove P [] zero all = all
  all-remove P [] (suc i) all = all
  all-remove P (x ∷ xs) zero all = all.1
  all-remove P (x ∷ xs) (suc i) all = (all.0, all-remove P xs i all.1)

  -- without one element there is still no repeat
  pub once-remove : (xs : List A) (i : ℕ) → AreOnce xs → AreOnce (remove xs i)
  once-remove [] zero once = once
  once-remove [] (suc i) once = once
  once-remove (x ∷ xs) zero once = once.1
  once-remove (x ∷ xs) (suc i) once = (all-remove (λ y. x ≢ y) xs i once.0, once-remove xs i once.1)

  -- and that element is none of the others
  pub once-at : (xs : List A) (i : ℕ) (d : A) → AreOnce xs → i < length xs
      → AllByRecursion (λ y. get_or xs i d ≢ y) (remove xs i)
  once-at [] i d once h = absurd (omega arith)
  once-at (x ∷ xs) zero d once h = once.0
  once-at (x ∷ xs) (suc i) d once h =
      (λ e. All-from_recursion (λ y. x ≢ y) xs once.0 i d (omega arith) (sym e), once-at xs i d once.1 (omega arith))

  -- so no element stands at two places
  pub once_apart : (xs : List A) → AreOnce xs → (i j : ℕ) (x : A) → slice_get xs i ≡ Some x → slice_get xs j ≡ Some x
      → i ≡ j
  once_apart [] once i j x at_i at_j = absurd (cc)
  once_apart (y ∷ xs) once zero zero x at_i at_j = refl
  once_apart (y ∷ xs) once zero (suc j) x at_i at_j =
      let same : y ≡ x = cc in absurd (all_at (λ z. y ≢ z) xs j x once.0 at_j same)
  once_apart (y ∷ xs) once (suc i) zero x at_i at_j =
      let same : y ≡ x = cc in absurd (all_at (λ z. y ≢ z) xs i x once.0 at_i same)
  once_apart (y ∷ xs) once (suc i) (suc j) x at_i at_j = ap suc (once_apart xs once.1 i j x at_i at_j)

  -- a test that passes all elements passes each of them
  pub all_tested : (test : A → Bool) (xs : List A) → list_all test xs ≡ true → AllByRecursion (λ x. test x ≡ true) xs
  all_tested test [] all = tt
  all_tested test (x ∷ xs) all =
      let both = and_parts (test x) (list_all test xs) all in (both.0, all_tested test xs both.1)

  -- and a test that passes each passes all
  pub tested_all : (test : A → Bool) (xs : List A) → AllByRecursion (λ x. test x ≡ true) xs → list_all test xs ≡ true
  tested_all test [] all = refl
  tested_all test (x ∷ xs) all = and_from (test x) (list_all test xs) all.0 (tested_all test xs all.1)
