use Rattle.axis_roots.proofs.Messages.OwnLemmas.{accepted_own}
use Rattle.axis_roots.proofs.message.laws.message_laws.Goals as goal

pub returns-clause-own : goal.returns-clause-own
returns-clause-own c = accepted_own
