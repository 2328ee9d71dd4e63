use Rattle.square_serve.proofs.Serving.StoredLemmas.{sample_proved}
use Rattle.square_serve.proofs.Serving.AnswerLemmas.{held_own, answer_complete, answer_sized, answer_shares}
use Rattle.square_serve.proofs.Serving.OnlyLemmas.{answer_only}
use Rattle.square_serve.proofs.Serving.OwnLemmas.{own_answer}
use Rattle.square_serve.proofs.laws.serve_laws.Goals as goal

pub returns-clause-header : goal.returns-clause-header
returns-clause-header c = held_own

pub returns-clause-sample : goal.returns-clause-sample
returns-clause-sample c = sample_proved

pub returns-clause-complete : goal.returns-clause-complete
returns-clause-complete c = answer_complete

pub returns-clause-entries : goal.returns-clause-entries
returns-clause-entries c = answer_sized

pub returns-clause-shares : goal.returns-clause-shares
returns-clause-shares c = answer_shares

pub returns-clause-answer : goal.returns-clause-answer
returns-clause-answer c = own_answer

pub returns-clause-only : goal.returns-clause-only
returns-clause-only c = answer_only
