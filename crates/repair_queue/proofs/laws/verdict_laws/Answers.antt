use Rattle.repair_queue.proofs.Facts.VerdictLemmas.{alike}
use Rattle.repair_queue.proofs.Facts.GrowthLemmas.{fraud_grows, clash_grows, same_verdict}
use Rattle.repair_queue.proofs.Facts.WholeLemmas.{whole_there, whole_square}
use Rattle.repair_queue.proofs.Facts.OwnLemmas.{own_verdict, own_unnamed}
use Rattle.repair_queue.proofs.Facts.NothingLemmas.{all_missing}
use Rattle.repair_queue.proofs.laws.verdict_laws.Goals as goal

pub returns-clause-listed : goal.returns-clause-listed
returns-clause-listed c = λ header ms cells cell m inside out. (m.missing cell).1 (inside, out)

pub returns-clause-some_square : goal.returns-clause-some_square
returns-clause-some_square c = whole_there

pub returns-clause-header : goal.returns-clause-header
returns-clause-header c = whole_square

pub returns-clause-fraud_stays : goal.returns-clause-fraud_stays
returns-clause-fraud_stays c = fraud_grows

pub returns-clause-clash_stays : goal.returns-clause-clash_stays
returns-clause-clash_stays c = clash_grows

pub returns-clause-same_proved : goal.returns-clause-same_proved
returns-clause-same_proved c = same_verdict

pub returns-clause-order : goal.returns-clause-order
returns-clause-order c = λ header ms others to from v w vh wh. alike header ms v w vh (same_verdict header others ms from to w wh)

pub returns-clause-own : goal.returns-clause-own
returns-clause-own c = own_verdict

pub returns-clause-nothing : goal.returns-clause-nothing
returns-clause-nothing c = all_missing

pub returns-clause-own_unnamed : goal.returns-clause-own_unnamed
returns-clause-own_unnamed c = own_unnamed
