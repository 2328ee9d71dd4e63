use Rattle.std.proofs.Common.{◌≡◌, ◌∙◌, length, map, ap, arith}
use Rattle.std.proofs.lemmas.List.{length-map, ext_get_or}
use Rattle.axis_roots.specs.Lines.{blank}
use Rattle.axis_roots.specs.Messages.{position}
use Rattle.axis_roots.specs.Proved.{kept_message}
use Rattle.axis_roots.specs.declared.message.messages.Message.{Message}
use Rattle.befp_maker.proofs.CellLemmas.{written_next}
use Rattle.befp_maker.proofs.rooms.gather.Goals as goal

-- one more cell
pub loop-i-preserved : goal.loop-i-preserved
loop-i-preserved c = record {
  positions = written_next (λ p. position c.args.axis (kept_message p).cell) c.args.cells.now c.loop-i.known c.loop-i.i c.index-cells-i.result c.position.result 0
      (omega arith) (omega arith) c.index-cells-i.is
      (c.position.ensures ∙ ap (λ (m : Message). position c.args.axis m.cell) c.message-message.ensures) c.loop-i.invariant.positions;
  copies = written_next (λ p. (kept_message p).share) c.args.cells.now c.loop-i.given c.loop-i.i c.index-cells-i.result _ blank
      (omega arith) (omega arith) c.index-cells-i.is (ap (λ (m : Message). m.share) c.message-message.ensures) c.loop-i.invariant.copies;
}

-- all positions are written
pub returns-clause-known : goal.returns-clause-known
returns-clause-known c =
    let many : length (map (λ p. position c.args.axis (kept_message p).cell) c.args.cells.now) ≡ length c.args.cells.now =
    length-map c.args.cells.now (λ p. position c.args.axis (kept_message p).cell) in
    ext_get_or 0 c.loop-i.known (map (λ p. position c.args.axis (kept_message p).cell) c.args.cells.now) (omega arith)
    (λ j h. c.loop-i.invariant.positions j (omega arith))

-- and all shares
pub returns-clause-given : goal.returns-clause-given
returns-clause-given c =
    let many : length (map (λ p. (kept_message p).share) c.args.cells.now) ≡ length c.args.cells.now =
    length-map c.args.cells.now (λ p. (kept_message p).share) in
    ext_get_or blank c.loop-i.given (map (λ p. (kept_message p).share) c.args.cells.now) (omega arith)
    (λ j h. c.loop-i.invariant.copies j (omega arith))
