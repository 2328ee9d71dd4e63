use Rattle.half_rows.proofs.RowLemmas.{row_is_there, row_is_one, samples_are_of_square}
use Rattle.half_rows.proofs.samples.row_laws.Goals as goal

pub returns-clause-there : goal.returns-clause-there
returns-clause-there c = row_is_there

pub returns-clause-one : goal.returns-clause-one
returns-clause-one c = row_is_one

pub returns-clause-of_square : goal.returns-clause-of_square
returns-clause-of_square c = samples_are_of_square
