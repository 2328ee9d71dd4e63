use Rattle.std.proofs.Common.{[], ◌∙◌, sym}
use Rattle.namespace_id.specs.Names.{is_at_most}
use Rattle.namespace_id.proofs.AlongLemmas.{along_fails, along_on, along_end}
use Rattle.nmt_tree.proofs.roots.are_ordered.Goals as goal

pub returns-then-not-is_at_most : goal.returns-then-not-is_at_most
returns-then-not-is_at_most c =
    along_fails is_at_most c.args.names.now c.loop-i.i (record { 0 = [] }) c.loop-i.auto.i c.loop-i-test.true
    (sym c.is_at_most.ensures ∙ c.if-not-is_at_most.true) c.loop-i.invariant

pub loop-i-preserved : goal.loop-i-preserved
loop-i-preserved c =
    along_on is_at_most c.args.names.now c.loop-i.i (record { 0 = [] }) c.loop-i.auto.i c.loop-i-test.true
    (sym c.is_at_most.ensures ∙ c.if-not-is_at_most.false) c.loop-i.invariant

pub returns : goal.returns
returns c = along_end is_at_most c.args.names.now c.loop-i.i c.loop-i-test.false c.loop-i.invariant
