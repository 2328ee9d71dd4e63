-- Lists of cells to which cells are added, each where it isn't there.
use Rattle.std.proofs.Common.{◌≡◌, ◌∙◌, List, [], ◌∷◌, ◌++◌, append_assoc, append-nil, Bool, true, false, ◌||◌, if◌then◌else◌, refl, sym, ap, subst, eq-eqb, inl, inr}
use Rattle.std.specs.Prelude.{◌⊎◌}
use Rattle.std.specs.List.{Contains, list_any, fold}
use Rattle.std.proofs.lemmas.Bool.{and_from, cases_Bool}
use Rattle.std.proofs.lemmas.List.Elements.{Contains-append_left, Contains-push, Contains-push_cases}
use Rattle.indexmap.specs.IndexSet.{insert_key}
use Rattle.indexmap.proofs.CallerLemmas.{Contains-list_any}
use Rattle.namespace_id.specs.declared.cells.Cell.{Cell}
use Rattle.namespace_id.proofs.KeyLemmas.{equal_cells}
use Rattle.namespace_id.proofs.MemberLemmas.{contains_head, contains_tail, contains_cons, contains_none}
use Rattle.light_node.specs.Nodes.{is_same}

-- a cell is added to a list, where it isn't there
abbrev pub added : List Cell → Cell → List Cell
added cells cell = insert_key is_same cells cell

-- and so are many
abbrev pub all_added : List Cell → List Cell → List Cell
all_added cells more = fold (insert_key is_same) cells more

-- a cell is itself
is_same-self : (cell : Cell) → is_same cell cell ≡ true
is_same-self cell = and_from _ _ (eq-eqb cell.row cell.row refl) (eq-eqb cell.col cell.col refl)

-- a cell that is found in a list is in it
pub found_listed : (cells : List Cell) (cell : Cell) → list_any (is_same cell) cells ≡ true → Contains cells cell
found_listed = Contains-list_any is_same equal_cells

-- and one that is in a list is found there
pub listed_found : (cells : List Cell) (cell : Cell) → Contains cells cell → list_any (is_same cell) cells ≡ true
listed_found [] cell at = absurd (contains_none cell at)
listed_found (x ∷ cells) cell at = elim (contains_cons x cell cells at) [
  | inl e ↦
      let same : is_same cell x ≡ true = subst (λ (c : Cell). is_same cell c ≡ true) (sym e) (is_same-self cell) in
      ap (λ (b : Bool). b || list_any (is_same cell) cells) same
  | inr later ↦ or_right (is_same cell x) (list_any (is_same cell) cells) (listed_found cells cell later)
]
  where
    or_right : (a b : Bool) → b ≡ true → (a || b) ≡ true
    or_right true b e = refl
    or_right false b e = e

-- a list stays, or gets a cell at its end
pub added_cases : (cells : List Cell) (cell : Cell)
    → ((list_any (is_same cell) cells ≡ true) × (added cells cell ≡ cells)) ⊎ (added cells cell ≡ cells ++ cell ∷ [])
added_cases cells cell = elim (cases_Bool (list_any (is_same cell) cells)) [
  | inl e ↦ inl (e, ap (λ (b : Bool). if b then cells else cells ++ cell ∷ []) e)
  | inr e ↦ inr (ap (λ (b : Bool). if b then cells else cells ++ cell ∷ []) e)
]

-- what was there is there
pub added_keeps : (cells : List Cell) (cell other : Cell) → Contains cells other → Contains (added cells cell) other
added_keeps cells cell other at = elim (added_cases cells cell) [
  | inl same ↦ subst (λ (l : List Cell). Contains l other) (sym same.1) at
  | inr e ↦ subst (λ (l : List Cell). Contains l other) (sym e) (Contains-append_left cells (cell ∷ []) other at)
]

-- and so is what is added
pub added_has : (cells : List Cell) (cell : Cell) → Contains (added cells cell) cell
added_has cells cell = elim (added_cases cells cell) [
  | inl same ↦ subst (λ (l : List Cell). Contains l cell) (sym same.1) (found_listed cells cell same.0)
  | inr e ↦ subst (λ (l : List Cell). Contains l cell) (sym e) (Contains-push cells cell)
]

-- nothing else is
pub added_only : (cells : List Cell) (cell other : Cell) → Contains (added cells cell) other
    → Contains cells other ⊎ (cell ≡ other)
added_only cells cell other at = elim (added_cases cells cell) [
  | inl same ↦ inl (subst (λ (l : List Cell). Contains l other) same.1 at)
  | inr e ↦ Contains-push_cases cells cell other (subst (λ (l : List Cell). Contains l other) e at)
]

-- ---- many cells

-- what was there is there
pub all_added-keep : (more cells : List Cell) (other : Cell) → Contains cells other → Contains (all_added cells more)
    other
all_added-keep [] cells other at = at
all_added-keep (cell ∷ more) cells other at =
    all_added-keep more (added cells cell) other (added_keeps cells cell other at)

-- and so are all that are added
pub all_added-have : (more cells : List Cell) (other : Cell) → Contains more other → Contains (all_added cells more)
    other
all_added-have [] cells other at = absurd (contains_none other at)
all_added-have (cell ∷ more) cells other at = elim (contains_cons cell other more at) [
  | inl e ↦ all_added-keep more (added cells cell) other (subst (Contains (added cells cell)) e (added_has cells cell))
  | inr later ↦ all_added-have more (added cells cell) other later
]

-- nothing else is
pub all_added-only : (more cells : List Cell) (other : Cell) → Contains (all_added cells more) other
    → Contains cells other ⊎ Contains more other
all_added-only [] cells other at = inl at
all_added-only (cell ∷ more) cells other at = elim (all_added-only more (added cells cell) other at) [
  | inl before ↦ elim (added_only cells cell other before) [
    | inl old ↦ inl old
    | inr e ↦ inr (subst (Contains (cell ∷ more)) e (contains_head cell more))
  ]
  | inr later ↦ inr (contains_tail cell other more later)
]

-- the list begins with what was there
pub all_added-begins : (more cells : List Cell) → (rest : List Cell) × (all_added cells more ≡ cells ++ rest)
all_added-begins [] cells = ([], sym (append-nil cells))
all_added-begins (cell ∷ more) cells =
    let later = all_added-begins more (added cells cell) in
    elim (added_cases cells cell) [
      | inl same ↦ (later.0, later.1 ∙ ap (λ (l : List Cell). l ++ later.0) same.1)
      | inr e ↦ (
        cell ∷ later.0,
        later.1 ∙ ap (λ (l : List Cell). l ++ later.0) e ∙ append_assoc cells (cell ∷ []) later.0,
      )
    ]
