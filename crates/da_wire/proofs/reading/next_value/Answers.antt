use Rattle.std.proofs.Common.{◌∙◌, ◌∷◌, ℕ, List, ap, sym, arith}
use Rattle.std.proofs.lemmas.List.{take_rest}
use Rattle.da_wire.specs.declared.frames.Frame.{Frame}
use Rattle.da_wire.specs.Reading.{Raw, raw_seen}
use Rattle.da_wire.specs.Values.{value_in, values_of}
use Rattle.da_wire.proofs.WalkLemmas.{walk_on, walk_stop}
use Rattle.da_wire.proofs.ValueListLemmas.{value_found, value_missed, frame_missed}
use Rattle.da_wire.proofs.KindLemmas.{value_among}
use Rattle.da_wire.proofs.reading.next_value.Goals as goal

pub returns-in_default-clause-values : goal.returns-in_default-clause-values
returns-in_default-clause-values c =
    walk_stop (value_in c.args.kinds.now) c.args.bytes.now (frame_missed c.args.kinds.now c.args.bytes.now c.in_default.field-0 c.in_default.ensures.value)

pub returns-in-Some-clause-values : goal.returns-in-Some-clause-values
returns-in-Some-clause-values c =
    let bytes : List ℕ = c.args.bytes.now in
    let kinds : List ℕ = c.args.kinds.now in
    let frame : Raw = raw_seen c.in-Ok.frame in
    let value : Frame = c.in-Some.value in
    let found = value_found kinds bytes frame value c.in-Ok.ensures.value (c.in_ok-value.ensures ∙ c.in-Some.is) in
    walk_on (value_in kinds) bytes value frame.size found (omega (arith, c.in-Ok.ensures.some)) (omega (arith, c.in-Ok.ensures.some, c.in-Ok.ensures.within))
    ∙ ap (λ (l : List ℕ). value ∷ values_of kinds l) (sym (take_rest bytes frame.size))

-- the frame's kind was asked for
pub returns-in-Some-clause-kind : goal.returns-in-Some-clause-kind
returns-in-Some-clause-kind c =
    value_among c.args.kinds.now c.args.bytes.now (raw_seen c.in-Ok.frame) c.in-Some.value c.in-Ok.ensures.value (c.in_ok-value.ensures ∙ c.in-Some.is)

pub returns-in-None-clause-values : goal.returns-in-None-clause-values
returns-in-None-clause-values c =
    let missed = value_missed c.args.kinds.now c.args.bytes.now (raw_seen c.in-Ok.frame) c.in-Ok.ensures.value (c.in_ok-value.ensures ∙ c.in-None.is) in
    walk_stop (value_in c.args.kinds.now) c.args.bytes.now missed
