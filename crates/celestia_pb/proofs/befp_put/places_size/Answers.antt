use Rattle.std.proofs.Common.{◌+◌, ◌*◌, List, length, ap, arith}
use Rattle.axis_roots.specs.declared.message.messages.Message.{Message}
use Rattle.celestia_pb.proofs.PlaceTexts.{texts_from, length_here, texts_past}
use Rattle.celestia_pb.proofs.befp_put.places_size.Goals as goal

-- one more was counted
pub loop-place-preserved : goal.loop-place-preserved
loop-place-preserved c = record {
  all = omega (
    arith,
    c.loop-place.invariant.all,
    length_here c.args.axis (2 * c.args.k) c.loop-place.place c.loop-place.rest.now c.loop-place-test.true,
    c.place_size-total.ensures.value,
    ap (λ (l : List Message). length (texts_from c.args.axis (2 * c.args.k) (c.loop-place.place + 1) l)) c.behind_place-rest.ensures,
  );
  few = omega (arith, c.loop-place.invariant.few, c.place_size-total.ensures.few);
}

-- none are left
pub returns-clause-value : goal.returns-clause-value
returns-clause-value c =
    omega (arith, c.loop-place.invariant.all, ap length (texts_past c.args.axis (2 * c.args.k) c.loop-place.place c.loop-place.rest.now c.loop-place-test.false))
