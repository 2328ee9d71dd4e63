use Rattle.square_serve.proofs.Judging.CompleteLemmas.{complete_where}
use Rattle.square_serve.proofs.Judging.OwnLemmas.{answer_own, answer_apart}
use Rattle.square_serve.proofs.Judging.ColumnLemmas.{entry_columns}
use Rattle.square_serve.proofs.laws.answer_laws.Goals as goal

pub returns-clause-refusal : goal.returns-clause-refusal
returns-clause-refusal c = complete_where

pub returns-clause-own : goal.returns-clause-own
returns-clause-own c = answer_own

pub returns-clause-apart : goal.returns-clause-apart
returns-clause-apart c = answer_apart

pub returns-clause-columns : goal.returns-clause-columns
returns-clause-columns c = entry_columns
