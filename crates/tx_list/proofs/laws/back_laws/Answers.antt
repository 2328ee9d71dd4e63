use Rattle.tx_list.proofs.BackLawLemmas.{one_list, none_refused}
use Rattle.tx_list.proofs.laws.back_laws.Goals as goal

pub returns-clause-unique : goal.returns-clause-unique
returns-clause-unique c = one_list

pub returns-clause-there : goal.returns-clause-there
returns-clause-there c = none_refused
