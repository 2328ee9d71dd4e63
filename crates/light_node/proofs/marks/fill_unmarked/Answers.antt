use Rattle.std.proofs.Common.{◌≡◌, ◌∙◌, ◌+◌, true, true≢false, sym, subst, arith}
use Rattle.namespace_id.specs.declared.cells.Cell.{Cell}
use Rattle.namespace_id.specs.Cells.{is_in_square}
use Rattle.namespace_id.proofs.NumberLemmas.{in_square}
use Rattle.namespace_id.proofs.BelowLemmas.{IsFilling, none_below, below_same, below_more, comes_after, all_below}
use Rattle.light_node.specs.Nodes.{IsUnmarkedIn}
use Rattle.light_node.proofs.marks.fill_unmarked.Goals.{then-is_unmarked_in, else-is_unmarked_in}
use Rattle.light_node.proofs.marks.fill_unmarked.Goals as goal

-- none at first
pub loop-number-init : goal.loop-number-init
loop-number-init c = record {
  width = c.clear.ensures.k ∙ c.requires.room;
  below = none_below c.args.k (IsUnmarkedIn c.args.k c.args.shown.now c.args.cells.now.keys) c.clear.new.self.list c.clear.ensures.list;
}

-- a cell comes after those with lower numbers
pub add-requires-clause-after : goal.add-requires-clause-after
add-requires-clause-after c =
    comes_after c.args.k (IsUnmarkedIn c.args.k c.args.shown.now c.args.cells.now.keys) c.loop-number.number c.loop-number.room.list
    c.cell_numbered-cell.result (λ d is. is.inside)
    (in_square c.args.k c.cell_numbered-cell.result c.cell_numbered-cell.ensures.row c.cell_numbered-cell.ensures.col)
    c.cell_numbered-cell.ensures.number c.loop-number.invariant.below

-- it is added where it isn't marked
pub loop-number-preserved : goal.loop-number-preserved
loop-number-preserved c =
    let Is : Cell → Type 0 = IsUnmarkedIn c.args.k c.args.shown.now c.args.cells.now.keys in
    let within : is_in_square c.args.k c.cell_numbered-cell.result ≡ true =
    in_square c.args.k c.cell_numbered-cell.result c.cell_numbered-cell.ensures.row c.cell_numbered-cell.ensures.col in
    elim c.if-is_unmarked_in.branch [
      | then-is_unmarked_in w ↦
          subst (IsFilling c.args.k Is (c.loop-number.number + 1)) (sym (w.room-is ∙ w.add.ensures.value)) (record {
            width = c.loop-number.invariant.width;
            below = below_more c.args.k Is c.loop-number.number c.loop-number.room.list c.cell_numbered-cell.result
                (λ d is. is.inside) within c.cell_numbered-cell.ensures.number c.loop-number.invariant.below
                (c.is_unmarked_in.ensures.0 w.if-is_unmarked_in.true);
          })
      | else-is_unmarked_in w ↦
          subst (IsFilling c.args.k Is (c.loop-number.number + 1)) (sym w.room-is) (record {
            width = c.loop-number.invariant.width;
            below = below_same c.args.k Is c.loop-number.number c.loop-number.room.list c.cell_numbered-cell.result
                (λ d is. is.inside) within c.cell_numbered-cell.ensures.number c.loop-number.invariant.below
                (λ is. true≢false (sym (c.is_unmarked_in.ensures.1 is) ∙ w.if-is_unmarked_in.false));
          })
    ]

-- at the end these are all
pub returns-clause-filled : goal.returns-clause-filled
returns-clause-filled c =
    all_below c.args.k (IsUnmarkedIn c.args.k c.args.shown.now c.args.cells.now.keys) c.loop-number.number c.loop-number.room.list
    (λ d is. is.inside) (omega (arith, c.loop-number-test.false)) c.loop-number.invariant.below
