-- The cells of a kind whose numbers are below one, row by row.
use Rattle.std.proofs.Common.{◌≡◌, ◌∙◌, ℕ, ◌+◌, ◌*◌, ◌<◌, ◌≤◌, List, [], ◌∷◌, ◌++◌, true, sym, ap, subst, inl, inr, arith}
use Rattle.std.specs.Prelude.{◌↔◌, ◌⊎◌}
use Rattle.std.specs.List.{Contains, list_all}
use Rattle.std.proofs.lemmas.Bool.{cases_eq}
use Rattle.std.proofs.lemmas.List.Elements.{Contains-append_left, Contains-push, Contains-push_cases}
use Rattle.namespace_id.specs.declared.cells.Cell.{Cell}
use Rattle.namespace_id.specs.Cells.{CellList, is_in_square, is_before, cell_numbered}
use Rattle.namespace_id.proofs.MemberLemmas.{contains_none}
use Rattle.namespace_id.proofs.NumberLemmas.{inside, number-lt, cell_numbered-number, lower_before}
use Rattle.namespace_id.proofs.RoomLemmas.{each_all}

-- cells with one number are one
pub same_cell : (n : ℕ) (a b : Cell) → a.col < n → b.col < n → a.row * n + a.col ≡ b.row * n + b.col → a ≡ b
same_cell n a b ha hb e = sym (cell_numbered-number n a ha) ∙ ap (cell_numbered n) e ∙ cell_numbered-number n b hb

-- these are the cells of a kind with numbers below this one
abbrev pub AreBelow : ℕ → (Cell → Type 0) → ℕ → List Cell → Type 0
AreBelow k Is n list = (cell : Cell) → Contains list cell ↔ (Is cell × (cell.row * (2 * k) + cell.col < n))

module _ (k : ℕ) (Is : Cell → Type 0) where
  -- none at first
  pub none_below : (list : List Cell) → list ≡ [] → AreBelow k Is 0 list
  none_below list e = λ cell. (
    λ at. absurd (contains_none cell (subst (λ (l : List Cell). Contains l cell) e at)),
    λ x. absurd (omega (arith, x.1)),
  )

  -- at the end these are all
  pub all_below : (n : ℕ) (list : List Cell) → ((cell : Cell) → Is cell → is_in_square k cell ≡ true)
      → 2 * k * (2 * k) ≤ n → AreBelow k Is n list → (cell : Cell) → Contains list cell ↔ Is cell
  all_below n list all_within end below = λ cell. (
    λ at. ((below cell).0 at).0,
    λ is.
        let both = inside k cell (all_within cell is) in
        let low : cell.row * (2 * k) + cell.col < n = omega (arith, end, number-lt (2 * k) cell both.0 both.1) in
        (below cell).1 (is, low),
  )

module _ (k : ℕ) (Is : Cell → Type 0) (n : ℕ) (list : List Cell) (cell : Cell)
    (all_within : (d : Cell) → Is d → is_in_square k d ≡ true) (within : is_in_square k cell ≡ true)
    (number : cell.row * (2 * k) + cell.col ≡ n) (below : AreBelow k Is n list) where
  -- a cell with a number up to this one is this one, or has a lower number
  this_or_lower : (d : Cell) → is_in_square k d ≡ true → d.row * (2 * k) + d.col < n + 1
      → (cell ≡ d) ⊎ (d.row * (2 * k) + d.col < n)
  this_or_lower d there h = elim (cases_eq (d.row * (2 * k) + d.col) n) [
    | inl e ↦ inl (same_cell (2 * k) cell d (inside k cell within).1 (inside k d there).1 (number ∙ sym e))
    | inr apart ↦ inr (omega arith)
  ]

  -- it comes after each one
  pub comes_after : list_all (λ (other : Cell). is_before other cell) list ≡ true
  comes_after = each_all (λ (other : Cell). is_before other cell) list (λ d at.
      let x = (below d).0 at in
      lower_before (2 * k) d cell (inside k d (all_within d x.0)).1 (inside k cell within).1 (omega (arith, x.1, number)))

  -- this one isn't of the kind
  pub below_same : (Is cell → ⊥) → AreBelow k Is (n + 1) list
  below_same isnt = λ d. (
    λ at. let x = (below d).0 at in let low : d.row * (2 * k) + d.col < n + 1 = omega (arith, x.1) in (x.0, low),
    λ x. elim (this_or_lower d (all_within d x.0) x.1) [
      | inl e ↦ absurd (isnt (subst Is (sym e) x.0))
      | inr lower ↦ (below d).1 (x.0, lower)
    ],
  )

  -- this one is
  pub below_more : Is cell → AreBelow k Is (n + 1) (list ++ cell ∷ [])
  below_more is = λ d. (
    λ at. elim (Contains-push_cases list cell d at) [
      | inl before ↦
          let x = (below d).0 before in
          let low : d.row * (2 * k) + d.col < n + 1 = omega (arith, x.1) in (x.0, low)
      | inr e ↦
          let low : cell.row * (2 * k) + cell.col < n + 1 = omega (arith, number) in
          subst (λ (c : Cell). Is c × (c.row * (2 * k) + c.col < n + 1)) e (is, low)
    ],
    λ x. elim (this_or_lower d (all_within d x.0) x.1) [
      | inl e ↦ subst (Contains (list ++ cell ∷ [])) e (Contains-push list cell)
      | inr lower ↦ Contains-append_left list (cell ∷ []) d ((below d).1 (x.0, lower))
    ],
  )

-- a room holds the cells of a kind with numbers below this one
pub record IsFilling (k : ℕ) (Is : Cell → Type 0) (n : ℕ) (room : CellList) : Type 0 where
  pub width : room.k ≡ k
  pub below : AreBelow k Is n room.list
