use Rattle.std.proofs.Common.{◌∙◌, ◌∷◌, ℕ, List, ap, sym, arith}
use Rattle.std.proofs.lemmas.List.{take_rest}
use Rattle.da_wire.specs.Reading.{Raw, raw_seen}
use Rattle.da_wire.specs.Frames.{raw_in, frames_of}
use Rattle.da_wire.proofs.WalkLemmas.{walk_on, walk_stop}
use Rattle.da_wire.proofs.FrameListLemmas.{raw_found, raw_missed}
use Rattle.da_wire.proofs.reading.next_frame.Goals as goal

pub returns-in-Ok-clause-frames : goal.returns-in-Ok-clause-frames
returns-in-Ok-clause-frames c =
    let bytes : List ℕ = c.args.bytes.now in
    let frame : Raw = raw_seen c.in-Ok.frame in
    walk_on raw_in bytes frame frame.size (raw_found 0 bytes frame c.in-Ok.ensures.value) (omega (arith, c.in-Ok.ensures.some)) (omega (arith, c.in-Ok.ensures.some, c.in-Ok.ensures.within))
    ∙ ap (λ (l : List ℕ). frame ∷ frames_of l) (sym (take_rest bytes frame.size))

pub returns-in-Err-clause-frames : goal.returns-in-Err-clause-frames
returns-in-Err-clause-frames c = walk_stop raw_in c.args.bytes.now (raw_missed 0 c.args.bytes.now c.in-Err.field-0 c.in-Err.ensures.value)
