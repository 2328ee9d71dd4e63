use Rattle.std.proofs.Common.{[], ◌∷◌}
use Rattle.da_wire.specs.Reading.{raw_seen}
use Rattle.da_wire.specs.Values.{value_in}
use Rattle.da_wire.proofs.WalkLemmas.{walk_stop}
use Rattle.da_wire.proofs.ValueListLemmas.{frame_missed}
use Rattle.da_wire.proofs.SingleLemmas.{front_after, front_values}
use Rattle.da_wire.proofs.single.next_payload.Goals as goal

pub returns-in_default-clause-values : goal.returns-in_default-clause-values
returns-in_default-clause-values c =
    walk_stop (value_in (c.args.kind ∷ [])) c.args.bytes.now (frame_missed (c.args.kind ∷ []) c.args.bytes.now c.in_default.field-0 c.in_default.ensures.value)

pub returns-clause-after : goal.returns-clause-after
returns-clause-after c = front_after c.args.kind c.args.bytes.now (raw_seen c.in-Ok.frame) c.in-Ok.ensures.value

pub returns-clause-values : goal.returns-clause-values
returns-clause-values c = front_values c.args.kind c.args.bytes.now (raw_seen c.in-Ok.frame) c.in-Ok.ensures.value c.in-Ok.ensures.some c.in-Ok.ensures.within
