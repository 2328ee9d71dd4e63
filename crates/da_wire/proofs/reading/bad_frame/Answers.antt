use Rattle.std.proofs.Common.{arith}
use Rattle.da_wire.specs.Reading.{Raw, raw_seen}
use Rattle.da_wire.specs.Frames.{raw_in, bad_frame}
use Rattle.da_wire.proofs.WalkLemmas.{at_on, at_stop, at_end}
use Rattle.da_wire.proofs.FrameListLemmas.{raw_found, raw_missed}
use Rattle.da_wire.proofs.reading.bad_frame.Goals as goal

pub loop-at-preserved : goal.loop-at-preserved
loop-at-preserved c =
    let frame : Raw = raw_seen c.in-Ok.frame in
    at_on raw_in c.args.bytes.now c.loop-at.at (bad_frame c.args.bytes.now) c.loop-at.invariant frame frame.size c.loop-at-test.true
    (raw_found c.loop-at.at _ frame c.in-Ok.ensures.value) (omega (arith, c.in-Ok.ensures.some)) c.in-Ok.ensures.within

pub returns-in-Err : goal.returns-in-Err
returns-in-Err c =
    at_stop raw_in c.args.bytes.now c.loop-at.at (bad_frame c.args.bytes.now) c.loop-at.invariant c.loop-at-test.true
    (raw_missed c.loop-at.at _ c.in-Err.field-0 c.in-Err.ensures.value)

pub returns : goal.returns
returns c = at_end raw_in c.args.bytes.now c.loop-at.at (bad_frame c.args.bytes.now) c.loop-at.invariant c.loop-at-test.false
