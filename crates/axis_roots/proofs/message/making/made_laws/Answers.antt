use Rattle.axis_roots.proofs.Messages.MessageLemmas.{message_opens, line_opens}
use Rattle.axis_roots.proofs.message.making.made_laws.Goals as goal

pub returns : goal.returns
returns c = record { opens = message_opens; line = line_opens }
