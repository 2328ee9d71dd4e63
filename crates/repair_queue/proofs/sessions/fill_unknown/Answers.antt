use Rattle.std.proofs.Common.{◌≡◌, ◌∙◌, ℕ, ◌+◌, ◌*◌, ◌≤◌, true, true≢false, sym, subst, arith}
use Rattle.namespace_id.specs.declared.cells.Cell.{Cell}
use Rattle.namespace_id.specs.Cells.{is_in_square}
use Rattle.namespace_id.proofs.NumberLemmas.{in_square}
use Rattle.namespace_id.proofs.BelowLemmas.{IsFilling, none_below, below_same, below_more, comes_after, all_below}
use Rattle.repair_queue.specs.Sessions.{IsNotFound}
use Rattle.repair_queue.proofs.sessions.fill_unknown.Goals.{then-not-is_known, else-not-is_known}
use Rattle.repair_queue.proofs.sessions.fill_unknown.Goals as goal

-- none at first
pub loop-number-init : goal.loop-number-init
loop-number-init c = record {
  width = c.clear.ensures.k ∙ c.requires.room;
  below = none_below c.args.board.now.grid.k (IsNotFound c.args.board.now) c.clear.new.self.list c.clear.ensures.list;
}

-- a cell is in the square
pub add-requires-clause-cell : goal.add-requires-clause-cell
add-requires-clause-cell c =
    in_square c.loop-number.room.k c.cell_numbered-cell.result (omega (arith, c.cell_numbered-cell.ensures.row, c.width-k.ensures.value, c.loop-number.invariant.width))
    (omega (arith, c.cell_numbered-cell.ensures.col, c.width-k.ensures.value, c.loop-number.invariant.width))

-- and comes after those with lower numbers
pub add-requires-clause-after : goal.add-requires-clause-after
add-requires-clause-after c =
    let cell : Cell = c.cell_numbered-cell.result in
    comes_after c.args.board.now.grid.k (IsNotFound c.args.board.now) c.loop-number.number c.loop-number.room.list cell (λ d is. is.0)
    (in_square c.args.board.now.grid.k cell (omega (arith, c.cell_numbered-cell.ensures.row, c.width-k.ensures.value))
    (omega (arith, c.cell_numbered-cell.ensures.col, c.width-k.ensures.value)))
    (subst (λ (w : ℕ). cell.row * (2 * w) + cell.col ≡ c.loop-number.number) c.width-k.ensures.value c.cell_numbered-cell.ensures.number)
    c.loop-number.invariant.below

-- it is added where it isn't known
pub loop-number-preserved : goal.loop-number-preserved
loop-number-preserved c =
    let cell : Cell = c.cell_numbered-cell.result in
    let k : ℕ = c.args.board.now.grid.k in
    let Is : Cell → Type 0 = IsNotFound c.args.board.now in
    let within : is_in_square k cell ≡ true =
    in_square k cell (omega (arith, c.cell_numbered-cell.ensures.row, c.width-k.ensures.value)) (omega (arith, c.cell_numbered-cell.ensures.col, c.width-k.ensures.value)) in
    let number : cell.row * (2 * k) + cell.col ≡ c.loop-number.number =
    subst (λ (w : ℕ). cell.row * (2 * w) + cell.col ≡ c.loop-number.number) c.width-k.ensures.value c.cell_numbered-cell.ensures.number in
    elim c.if-not-is_known.branch [
      | then-not-is_known w ↦ subst (IsFilling k Is (c.loop-number.number + 1)) (sym (w.room-is ∙ w.add.ensures.value)) (record {
        width = c.loop-number.invariant.width;
        below = below_more k Is c.loop-number.number c.loop-number.room.list cell (λ d is. is.0) within number c.loop-number.invariant.below
            (within, λ is. true≢false (sym is ∙ sym c.is_known.ensures ∙ w.if-not-is_known.true));
      })
      | else-not-is_known w ↦ subst (IsFilling k Is (c.loop-number.number + 1)) (sym w.room-is) (record {
        width = c.loop-number.invariant.width;
        below = below_same k Is c.loop-number.number c.loop-number.room.list cell (λ d is. is.0) within number c.loop-number.invariant.below
            (λ is. is.1 (sym c.is_known.ensures ∙ w.if-not-is_known.false));
      })
    ]

-- at the end these are all
pub returns : goal.returns
returns c = record {
  width = c.loop-number.invariant.width;
  row_major = c.cells-cells.ensures.cells;
  left = all_below c.args.board.now.grid.k (IsNotFound c.args.board.now) c.loop-number.number c.loop-number.room.list (λ d is. is.0)
      (subst (λ (w : ℕ). 2 * w * (2 * w) ≤ c.loop-number.number) c.width-k.ensures.value (omega (arith, c.loop-number-test.false)))
      c.loop-number.invariant.below;
}
