-- Plans of cells that are apart.
use Rattle.std.proofs.Common.{◌≡◌, ◌∙◌, ℕ, zero, suc, Bool, true, List, [], ◌∷◌, ◌++◌, append-nil, length, Option, Some, slice_get, refl, sym, ap, ap₂, subst, inl, inr, arith}
use Rattle.std.specs.List.{Contains, list_all}
use Rattle.std.proofs.Math.Seq.{append_snoc}
use Rattle.std.proofs.lemmas.Option.{slice_get_read}
use Rattle.std.proofs.lemmas.Bool.{and_parts}
use Rattle.namespace_id.specs.declared.cells.Cell.{Cell}
use Rattle.sampling.specs.Draws.{AreApart}
use Rattle.light_node.specs.Nodes.{distinct}
use Rattle.light_node.proofs.DistinctLemmas.{added, all_added, added_cases, found_listed}
use Rattle.light_node.proofs.ListLemmas.{place_front}

module _ {A : Type 0} where
  -- behind the elements of a list stands the first of one that follows it
  slice_get-append_seam : (xs : List A) (x : A) (ys : List A) → slice_get (xs ++ x ∷ ys) (length xs) ≡ Some x
  slice_get-append_seam [] x ys = refl
  slice_get-append_seam (y ∷ xs) x ys = slice_get-append_seam xs x ys

  -- lists of one length are one where each entry of the first is the other's at its place
  pub same_list : (xs ys : List A) → length xs ≡ length ys → ((i : ℕ) (x : A) → slice_get xs i ≡ Some x → slice_get ys i ≡ Some x) → xs ≡ ys
  same_list [] [] count same = refl
  same_list [] (y ∷ ys) count same = absurd (omega (arith, count))
  same_list (x ∷ xs) [] count same = absurd (omega (arith, count))
  same_list (x ∷ xs) (y ∷ ys) count same =
      let first : ◌≡◌ {A = Option A} (Some y) (Some x) = same 0 x refl in
      let head : x ≡ y = cc in
      ap₂ (λ (a : A) (l : List A). a ∷ l) head (same_list xs ys (omega (arith, count)) (λ i z e. same (suc i) z e))

-- what a test says of all entries it says of each
pub each_there : {A : Type 0} (test : A → Bool) (xs : List A) (i : ℕ) (x : A) → list_all test xs ≡ true → slice_get xs i ≡ Some x → test x ≡ true
each_there test [] i x all e = absurd cc
each_there test (y ∷ xs) zero x all e = let same : y ≡ x = cc in subst (λ z. test z ≡ true) same (and_parts (test y) (list_all test xs) all).0
each_there test (y ∷ xs) (suc i) x all e = each_there test xs i x (and_parts (test y) (list_all test xs) all).1 e

-- ---- cells that are apart

-- a cell that isn't there comes to the end
added_apart : (cells : List Cell) (cell : Cell) → (Contains cells cell → ⊥) → added cells cell ≡ cells ++ cell ∷ []
added_apart cells cell not = elim (added_cases cells cell) [
  | inl same ↦ absurd (not (found_listed cells cell same.0))
  | inr e ↦ e
]

-- a cell that stands behind others isn't among them
apart_before : (cells more : List Cell) (cell : Cell) → AreApart (cells ++ cell ∷ more) → Contains cells cell → ⊥
apart_before cells more cell apart (i, below, e) =
    let there : slice_get (cells ++ cell ∷ more) i ≡ Some cell =
    place_front cells (cell ∷ more) i below ∙ slice_get_read cells (length cells) i cell refl below (sym e) in
    let same : i ≡ length cells = apart i (length cells) cell there (slice_get-append_seam cells cell more) in
    omega (arith, same, below)

-- cells that are apart all come to the end
all_added_apart : (more cells : List Cell) → AreApart (cells ++ more) → all_added cells more ≡ cells ++ more
all_added_apart [] cells apart = sym (append-nil cells)
all_added_apart (cell ∷ more) cells apart =
    let snoc : (cells ++ cell ∷ []) ++ more ≡ cells ++ cell ∷ more = append_snoc cells cell more in
    ap (λ (l : List Cell). all_added l more) (added_apart cells cell (apart_before cells more cell apart))
    ∙ all_added_apart more (cells ++ cell ∷ []) (subst AreApart (sym snoc) apart) ∙ snoc

-- so each of them is wanted
pub distinct_apart : (cells : List Cell) → AreApart cells → distinct cells ≡ cells
distinct_apart cells apart = all_added_apart cells [] apart
