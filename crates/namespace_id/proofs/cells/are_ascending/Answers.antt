use Rattle.std.proofs.Common.{◌∙◌, sym}
use Rattle.namespace_id.specs.Cells.{is_before}
use Rattle.namespace_id.proofs.AlongLemmas.{along_fails, along_on, along_end}
use Rattle.namespace_id.proofs.cells.are_ascending.Goals as goal

pub returns-then-not-is_before : goal.returns-then-not-is_before
returns-then-not-is_before c =
    along_fails is_before c.args.cells.now c.loop-i.i (record { row = 0; col = 0 }) c.loop-i.auto.i c.loop-i-test.true
    (sym c.is_before.ensures ∙ c.if-not-is_before.true) c.loop-i.invariant

pub loop-i-preserved : goal.loop-i-preserved
loop-i-preserved c =
    along_on is_before c.args.cells.now c.loop-i.i (record { row = 0; col = 0 }) c.loop-i.auto.i c.loop-i-test.true
    (sym c.is_before.ensures ∙ c.if-not-is_before.false) c.loop-i.invariant

pub returns : goal.returns
returns c = along_end is_before c.args.cells.now c.loop-i.i c.loop-i-test.false c.loop-i.invariant
