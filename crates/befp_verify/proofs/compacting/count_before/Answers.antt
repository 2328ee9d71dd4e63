use Rattle.std.proofs.Common.{ap, arith}
use Rattle.befp_verify.specs.declared.compacting.Placed.{Placed}
use Rattle.befp_verify.proofs.BranchLemmas.{before_more, before_end, before_past}
use Rattle.befp_verify.proofs.compacting.count_before.Goals as goal

-- the one at this place doesn't begin before the middle
pub returns-then-branch-middle-clause-count : goal.returns-then-branch-middle-clause-count
returns-then-branch-middle-clause-count c =
    before_end c.args.middle c.args.branches.now c.loop-i.i c.index-branches-i.result c.loop-i-test.true
    (omega (arith, ap (λ (p : Placed). p.pos) c.index-branches-i.is, c.if-branch-middle.true)) c.loop-i.invariant

pub loop-i-preserved : goal.loop-i-preserved
loop-i-preserved c =
    before_more c.args.middle c.args.branches.now c.loop-i.i c.index-branches-i.result c.loop-i-test.true
    (omega (arith, ap (λ (p : Placed). p.pos) c.index-branches-i.is, c.if-branch-middle.false)) c.loop-i.invariant

pub returns-clause-count : goal.returns-clause-count
returns-clause-count c = before_past c.args.middle c.args.branches.now c.loop-i.i c.loop-i-test.false c.loop-i.auto.i-end c.loop-i.invariant
