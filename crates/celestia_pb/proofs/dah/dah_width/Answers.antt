use Rattle.std.proofs.Common.{◌∙◌, sym}
use Rattle.celestia_pb.proofs.HeaderLemmas.{wrong_cols, wrong_end, right_end}
use Rattle.celestia_pb.proofs.Steps.{err_reads}
use Rattle.celestia_pb.proofs.dah.dah_width.Goals as goal

-- a column root is wrong
pub returns-in_err-cols-clause-value : goal.returns-in_err-cols-clause-value
returns-in_err-cols-clause-value c =
    err_reads _ c.from_residual-in_err-cols.result _ _
    (wrong_cols c.args.bytes.now c.in_ok-rows.behind.now c.in_ok-rows.rows c.in_ok-rows.ensures.value c.in_err-cols.field-0.0 c.in_err-cols.ensures.value)
    c.from_residual-in_err-cols.ensures

-- something is left, or the numbers are those of no width
pub returns-then-not-are_all-clause-value : goal.returns-then-not-are_all-clause-value
returns-then-not-are_all-clause-value c =
    wrong_end c.args.bytes.now c.in_ok-rows.behind.now c.in_ok-rows.rows c.in_ok-rows.ensures.value c.in_ok-cols.cols c.in_ok-cols.rest.now c.in_ok-cols.ensures.value
    (sym c.are_all.ensures ∙ c.if-not-are_all.true)

-- the width
pub returns-clause-value : goal.returns-clause-value
returns-clause-value c =
    right_end c.args.bytes.now c.in_ok-rows.behind.now c.in_ok-rows.rows c.in_ok-rows.ensures.value c.in_ok-cols.cols c.in_ok-cols.rest.now c.in_ok-cols.ensures.value
    (sym c.are_all.ensures ∙ c.if-not-are_all.false) c.in_ok-rows.ensures.behind
