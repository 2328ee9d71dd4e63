use Rattle.std.proofs.Common.{rules, ◌≡◌, ◌∙◌, ℕ, ◌+◌, ◌<◌, List, [], ◌∷◌, ◌++◌, length, get_or, true, refl, sym, ap, subst, arith}
use Rattle.std.proofs.lemmas.List.{length_push, get_or_default, take_all}
use Rattle.namespace_id.specs.declared.cells.Cell.{Cell}
use Rattle.namespace_id.specs.Cells.{is_in_square}
use Rattle.leopard_code.proofs.PositionLemmas.{position-lt}
use Rattle.axis_roots.specs.Lines.{cell_on}
use Rattle.axis_roots.proofs.Grids.WrittenLemmas.{on_axis_in_square}
use Rattle.befp_maker.specs.Gathered.{AreOfLine}
use Rattle.repair_queue.proofs.Feeding.AccuseLemmas.{found_still, taken_more}
use Rattle.repair_queue.proofs.judging.messages_known.Goals as goal

-- none at first
pub loop-i-init : goal.loop-i-init
loop-i-init c = record {
  readable = c.requires.readable;
  room = c.requires.room;
  across = c.requires.across;
  taken = record {
    marks = refl;
    grid = refl;
    later = λ other j low h. refl;
    are = λ line shown. subst (AreOfLine c.args.header.now c.args.axis c.args.index line []) (sym c.requires.spare.empty) tt;
  };
  count = omega (arith, ap length c.requires.spare.empty, c.args.cells.ok.0);
  space = omega (arith, c.requires.spare.capacity);
}

-- each position is on the row or column
pub message_known-requires-clause-cell : goal.message_known-requires-clause-cell
message_known-requires-clause-cell c =
    let known : List ℕ = c.args.known.now in
    let below : c.loop-i.i < length known = omega arith in
    let cell : c.cell_on-cell.result ≡ cell_on c.args.axis c.args.index (get_or known c.loop-i.i 0) =
    c.cell_on-cell.ensures ∙ ap (cell_on c.args.axis c.args.index) (get_or_default known c.loop-i.i _ 0 below) in
    subst (λ (x : Cell). is_in_square c.args.header.now.k x ≡ true) (sym cell)
    (on_axis_in_square c.args.header.now.k c.args.axis c.args.index (get_or known c.loop-i.i 0) c.requires.index
    (position-lt c.args.header.now.k known c.loop-i.i below c.requires.chosen.positions))

-- the cell is known still
pub message_known-requires-clause-known : goal.message_known-requires-clause-known
message_known-requires-clause-known c =
    found_still c.args.header.now c.args.board.now c.loop-i.board c.args.axis c.args.index c.args.known.now c.loop-i.cells.items c.loop-i.i c.loop-i.invariant.taken
    (omega arith) c.cell_on-cell.result _ c.cell_on-cell.ensures c.requires.found

-- one sample more
pub loop-i-preserved : goal.loop-i-preserved
loop-i-preserved c =
    let items : c.push.new.self.items ≡ c.loop-i.cells.items ++ c.message_known.result ∷ [] = search rules in
    let more : length c.push.new.self.items ≡ length c.loop-i.cells.items + 1 = ap length items ∙ length_push c.loop-i.cells.items c.message_known.result in record {
      readable = c.message_known.ensures.readable;
      room = c.message_known.ensures.room;
      across = c.message_known.ensures.across;
      taken = taken_more c.args.header.now c.args.board.now c.loop-i.board c.args.axis c.args.index c.args.known.now c.loop-i.cells.items c.loop-i.i c.loop-i.invariant.taken
          (omega arith) c.args.header.now.k c.message_known.new.board c.cell_on-cell.result _ c.message_known.result c.push.new.self.items c.requires.chosen
          c.cell_on-cell.ensures items c.message_known.ensures.message c.message_known.ensures.others;
      count = omega (arith, more, c.push.new.self.ok.0, c.loop-i.cells.ok.0);
      space = omega (arith, c.push.ensures.capacity);
    }

-- at the end they are of all positions
pub returns-clause-cells : goal.returns-clause-cells
returns-clause-cells c = λ line shown.
    let all : c.loop-i.i ≡ length c.args.known.now = omega arith in
    subst (λ (ps : List ℕ). AreOfLine c.args.header.now c.args.axis c.args.index line ps c.loop-i.cells.items)
    (take_all c.loop-i.i c.args.known.now (omega arith)) (c.loop-i.invariant.taken.are line shown)
