-- A list of cells with one more at its end.
use Rattle.std.proofs.Common.{◌≡◌, ℕ, ◌*◌, ◌<◌, List, [], ◌∷◌, ◌++◌, length, length-append, Bool, true, refl, sym, subst, inl, inr, arith}
use Rattle.std.specs.List.{Contains, list_all}
use Rattle.std.proofs.lemmas.Bool.{and_parts, and_from}
use Rattle.namespace_id.specs.declared.cells.Cell.{Cell}
use Rattle.namespace_id.specs.Cells.{CellList, is_width, is_in_square, is_before, are_cells}
use Rattle.namespace_id.specs.Lists.{holds_along}
use Rattle.namespace_id.proofs.MemberLemmas.{contains_head, contains_tail, contains_cons, contains_none}
use Rattle.namespace_id.proofs.RowMajorLemmas.{cells_parts, cells_from, cells_count}

module _ {A : Type 0} where
  -- a test that holds of all holds of each
  pub all_each : (test : A → Bool) (xs : List A) → list_all test xs ≡ true → (x : A) → Contains xs x → test x ≡ true
  all_each test [] all x at = absurd (contains_none x at)
  all_each test (y ∷ xs) all x at =
      let both = and_parts (test y) (list_all test xs) all in
      elim (contains_cons y x xs at) [
        | inl e ↦ subst (λ (z : A). test z ≡ true) e both.0
        | inr later ↦ all_each test xs both.1 x later
      ]

  -- and one that holds of each holds of all
  pub each_all : (test : A → Bool) (xs : List A) → ((x : A) → Contains xs x → test x ≡ true) → list_all test xs ≡ true
  each_all test [] each = refl
  each_all test (y ∷ xs) each =
      and_from (test y) (list_all test xs) (each y (contains_head y xs))
      (each_all test xs (λ x at. each x (contains_tail y x xs at)))

  -- a test that holds of all, and of one more
  pub all_next : (test : A → Bool) (xs : List A) (y : A) → list_all test xs ≡ true → test y ≡ true
      → list_all test (xs ++ y ∷ []) ≡ true
  all_next test [] y all here = and_from (test y) true here refl
  all_next test (x ∷ xs) y all here =
      let both = and_parts (test x) (list_all test xs) all in
      and_from (test x) (list_all test (xs ++ y ∷ [])) both.0 (all_next test xs y both.1 here)

  -- a test that holds along a list, and of each element with one behind it
  pub along_next : (test : A → A → Bool) (xs : List A) (y : A) → holds_along test xs ≡ true
      → list_all (λ x. test x y) xs ≡ true
      → holds_along test (xs ++ y ∷ []) ≡ true
  unfolding holds_along
  along_next test [] y along each = refl
  along_next test (x ∷ []) y along each = and_from (test x y) true (and_parts (test x y) true each).0 refl
  along_next test (x ∷ z ∷ rest) y along each =
      let both = and_parts (test x z) (holds_along test (z ∷ rest)) along in
      let later = and_parts (test x y) (list_all (λ w. test w y) (z ∷ rest)) each in
      and_from (test x z) (holds_along test (z ∷ rest ++ y ∷ [])) both.0 (along_next test (z ∷ rest) y both.1 later.1)

module _ (k : ℕ) (cells : List Cell) (cell : Cell) (are : are_cells k cells ≡ true)
    (within : is_in_square k cell ≡ true) (after : list_all (λ (other : Cell). is_before other cell) cells ≡ true) where
  -- cells of a square with one more, which comes after each, are cells of the square
  pub are_cells_with : are_cells k (cells ++ cell ∷ []) ≡ true
  are_cells_with =
      let parts = cells_parts k cells are in
      cells_from k (cells ++ cell ∷ []) parts.0 (all_next (is_in_square k) cells cell parts.1 within)
      (along_next is_before cells cell parts.2 after)

  -- so there was capacity for it
  pub cells_fewer : length cells < 2 * k * (2 * k)
  cells_fewer = omega (arith, cells_count k (cells ++ cell ∷ []) are_cells_with, length-append cells (cell ∷ []))

-- what is asked of a cell that is added is so of the fields of a room
pub may_follow : (k : ℕ) (list : List Cell) (room : CellList) (cell : Cell) → record { k = k; list = list } ≡ room
    → is_in_square room.k cell ≡ true → list_all (λ (other : Cell). is_before other cell) room.list ≡ true
    → (is_in_square k cell ≡ true) × (list_all (λ (other : Cell). is_before other cell) list ≡ true)
may_follow k list room cell seen within after = (
  subst (λ (r : CellList). is_in_square r.k cell ≡ true) (sym seen) within,
  subst (λ (r : CellList). list_all (λ (other : Cell). is_before other cell) r.list ≡ true) (sym seen) after,
)

-- an empty list is one of cells of a square
pub are_no_cells : (k : ℕ) (cells : List Cell) → is_width k ≡ true → cells ≡ [] → are_cells k cells ≡ true
unfolding holds_along
are_no_cells k cells width none =
    subst (λ (l : List Cell). are_cells k l ≡ true) (sym none) (cells_from k [] width refl refl)
