use Rattle.da_wire.specs.Values.{value_in, bad_value}
use Rattle.da_wire.proofs.WalkLemmas.{at_on, at_stop, at_end}
use Rattle.da_wire.proofs.ValueListLemmas.{size_found, size_missed}
use Rattle.da_wire.proofs.reading.bad_value.Goals as goal

pub loop-at-preserved : goal.loop-at-preserved
loop-at-preserved c =
    let found = size_found _ c.in-Some.size c.in-Some.ensures.size in
    at_on (value_in c.args.kinds.now) c.args.bytes.now c.loop-at.at (bad_value c.args.kinds.now c.args.bytes.now) c.loop-at.invariant found.0 c.in-Some.size c.loop-at-test.true
    found.1 c.in-Some.ensures.some c.in-Some.ensures.within

pub returns-in-None : goal.returns-in-None
returns-in-None c =
    at_stop (value_in c.args.kinds.now) c.args.bytes.now c.loop-at.at (bad_value c.args.kinds.now c.args.bytes.now) c.loop-at.invariant c.loop-at-test.true
    (size_missed _ c.in-None.ensures.size)

pub returns : goal.returns
returns c = at_end (value_in c.args.kinds.now) c.args.bytes.now c.loop-at.at (bad_value c.args.kinds.now c.args.bytes.now) c.loop-at.invariant c.loop-at-test.false
