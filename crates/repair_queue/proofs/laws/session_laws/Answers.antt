use Rattle.std.proofs.Common.{subst}
use Rattle.repair_queue.specs.SessionParts.{SessionEnd, StandsBy}
use Rattle.repair_queue.proofs.Facts.SessionLawLemmas.{session_same, session_settled, open_stands_open}
use Rattle.repair_queue.proofs.laws.session_laws.Goals as goal

pub returns-clause-same_proved : goal.returns-clause-same_proved
returns-clause-same_proved c = session_same

pub returns-clause-known : goal.returns-clause-known
returns-clause-known c = λ s ms is stand. (open_stands_open s ms is stand).known

pub returns-clause-settled : goal.returns-clause-settled
returns-clause-settled c = session_settled

pub returns-clause-accused : goal.returns-clause-accused
returns-clause-accused c = λ s ms claim is stand. subst (λ (e : SessionEnd). StandsBy s ms e) is stand

pub returns-clause-collided : goal.returns-clause-collided
returns-clause-collided c = λ s ms left right is stand. subst (λ (e : SessionEnd). StandsBy s ms e) is stand
