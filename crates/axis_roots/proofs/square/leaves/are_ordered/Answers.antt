use Rattle.std.proofs.Common.{◌∙◌, map, arith}
use Rattle.std.proofs.lemmas.List.{length-map}
use Rattle.namespace_id.specs.Names.{is_at_most, parity}
use Rattle.namespace_id.specs.Digests.{least_of}
use Rattle.namespace_id.proofs.AlongLemmas.{along_fails, along_on, along_end}
use Rattle.axis_roots.proofs.Grids.RootingLemmas.{pair_test}
use Rattle.axis_roots.proofs.square.leaves.are_ordered.Goals as goal

pub returns-then-not-is_at_most : goal.returns-then-not-is_at_most
returns-then-not-is_at_most c =
    along_fails is_at_most (map least_of c.args.digests.now) c.loop-i.i parity c.loop-i.auto.i (omega (arith, length-map c.args.digests.now least_of))
    (pair_test c.args.digests.now c.loop-i.i c.least.result c.least-in-loop-i.result c.is_at_most.result c.loop-i.auto.i c.loop-i-test.true
    c.least.ensures c.least-in-loop-i.ensures c.is_at_most.ensures ∙ c.if-not-is_at_most.true) c.loop-i.invariant

pub loop-i-preserved : goal.loop-i-preserved
loop-i-preserved c =
    along_on is_at_most (map least_of c.args.digests.now) c.loop-i.i parity c.loop-i.auto.i (omega (arith, length-map c.args.digests.now least_of))
    (pair_test c.args.digests.now c.loop-i.i c.least.result c.least-in-loop-i.result c.is_at_most.result c.loop-i.auto.i c.loop-i-test.true
    c.least.ensures c.least-in-loop-i.ensures c.is_at_most.ensures ∙ c.if-not-is_at_most.false) c.loop-i.invariant

pub returns : goal.returns
returns c =
    along_end is_at_most (map least_of c.args.digests.now) c.loop-i.i (omega (arith, length-map c.args.digests.now least_of)) c.loop-i.invariant
