use Rattle.std.proofs.Common.{arith, sym}
use Rattle.axis_roots.proofs.Grids.QuarterLemmas.{is_quarter_column, same_column}
use Rattle.axis_roots.proofs.square.quarters.write_column.Goals as goal

pub returns-clause-column : goal.returns-clause-column
returns-clause-column c =
    sym (is_quarter_column c.args.k c.loop-row.quarter c.args.line.now c.args.col (omega arith)
    (λ row h. sym (c.loop-row.invariant.written row (omega arith))))

pub returns-clause-others : goal.returns-clause-others
returns-clause-others c = λ other within apart.
    same_column c.args.k c.args.quarter.now c.loop-row.quarter c.args.col other within apart c.loop-row.invariant.others
