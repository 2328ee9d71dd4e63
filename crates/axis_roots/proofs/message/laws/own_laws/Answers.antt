use Rattle.axis_roots.proofs.Messages.OwnLemmas.{names_or_agrees, agrees_apart, own_apart}
use Rattle.axis_roots.proofs.message.laws.own_laws.Goals as goal

pub returns-clause-names : goal.returns-clause-names
returns-clause-names c = names_or_agrees

pub returns-clause-parts_apart : goal.returns-clause-parts_apart
returns-clause-parts_apart c = agrees_apart

pub returns-clause-messages_apart : goal.returns-clause-messages_apart
returns-clause-messages_apart c = own_apart
