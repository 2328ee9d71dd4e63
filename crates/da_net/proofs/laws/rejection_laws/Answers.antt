use Rattle.da_net.proofs.PromiseLemmas.{holds_accepted, rejects_on, full_cases, alarmed_names}
use Rattle.da_net.proofs.laws.rejection_laws.Goals as goal

pub returns-clause-holds : goal.returns-clause-holds
returns-clause-holds c = holds_accepted

pub returns-clause-rejects : goal.returns-clause-rejects
returns-clause-rejects c = rejects_on

pub returns-clause-settled : goal.returns-clause-settled
returns-clause-settled c = full_cases

pub returns-clause-own : goal.returns-clause-own
returns-clause-own c = λ net pool steps node kind standing square run own. alarmed_names net pool steps node square run own kind standing
