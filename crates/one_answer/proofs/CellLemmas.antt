-- Lists of cells of a square that have the same cells.
use Rattle.std.proofs.Common.{◌≡◌, ◌∙◌, ℕ, List, Bool, true, false, refl, sym, subst}
use Rattle.std.specs.Prelude.{◌↔◌}
use Rattle.std.specs.List.{Contains}
use Rattle.namespace_id.specs.declared.cells.Cell.{Cell}
use Rattle.namespace_id.specs.Cells.{CellList, AreCells, are_cells, is_in_square}
use Rattle.namespace_id.proofs.RowMajorLemmas.{cells_once}
use Rattle.data_header.specs.Headers.{Roots}
use Rattle.axis_roots.specs.declared.message.messages.Message.{Message}
use Rattle.light_node.specs.declared.events.Event.{Event}
use Rattle.light_node.specs.Events.{AreWaitedFor}
use Rattle.repair_queue.specs.Closures.{Half}
use Rattle.repair_queue.specs.Sessions.{AreLeft}

-- two lists of one width with the same cells are one
pub same_cells : (k : ℕ) (cells others : CellList) → cells.k ≡ k → others.k ≡ k → AreCells cells → AreCells others
    → ((cell : Cell) → Contains cells.list cell ↔ Contains others.list cell) → cells ≡ others
same_cells k cells others width other_width rise others_rise same =
    let widths : cells.k ≡ others.k = width ∙ sym other_width in
    let list : cells.list ≡ others.list =
    cells_once k cells.list others.list (subst (λ (n : ℕ). are_cells n cells.list ≡ true) width rise)
    (subst (λ (n : ℕ). are_cells n others.list ≡ true) other_width others_rise) same in
    λ i. record { k = widths i; list = list i }

-- the cells that aren't recoverable are one list
pub same_left : (header : Roots) (ms : List Message) (cells others : CellList) → AreLeft header ms cells → AreLeft header ms others
    → cells ≡ others
same_left header ms cells others a b =
    same_cells header.k cells others a.width b.width a.row_major b.row_major
    (λ cell. (λ at. (b.left cell).1 ((a.left cell).0 at), λ at. (a.left cell).1 ((b.left cell).0 at)))

-- the planned cells that aren't shown are one list
pub same_waited : (header : Roots) (plan : List Cell) (events : List Event) (cells others : CellList)
    → AreWaitedFor header plan events cells → AreWaitedFor header plan events others → cells ≡ others
same_waited header plan events cells others a b =
    same_cells header.k cells others a.width b.width a.row_major b.row_major
    (λ cell. (λ at. (b.waited_for cell).1 ((a.waited_for cell).0 at), λ at. (a.waited_for cell).1 ((b.waited_for cell).0 at)))

-- each cell of the square is recoverable
abbrev pub HasAll : Roots → List Message → Type 0
HasAll header ms = (cell : Cell) → is_in_square header.k cell ≡ true → Half header ms cell

-- tests of one fact are one
pub one_test : (P : Type 0) (r s : Bool) → ((r ≡ true) ↔ P) → ((s ≡ true) ↔ P) → r ≡ s
one_test P true true R S = refl
one_test P true false R S = sym (S.1 (R.0 refl))
one_test P false true R S = R.1 (S.0 refl)
one_test P false false R S = refl
