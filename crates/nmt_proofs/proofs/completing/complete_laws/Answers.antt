use Rattle.nmt_proofs.proofs.Agreement.OtherLeafLemmas.{made_range, made_absence, range_stands, absence_stands, range_alone, absence_alone}
use Rattle.nmt_proofs.proofs.completing.complete_laws.Goals as goal

pub returns-clause-made_range : goal.returns-clause-made_range
returns-clause-made_range c = made_range

pub returns-clause-made_absence : goal.returns-clause-made_absence
returns-clause-made_absence c = made_absence

pub returns-clause-range_between : goal.returns-clause-range_between
returns-clause-range_between c = λ depth from name names shares shown named. range_stands depth from name names shares shown

pub returns-clause-absence_between : goal.returns-clause-absence_between
returns-clause-absence_between c = λ depth pos name names shares leaf named. absence_stands depth pos name names shares leaf

pub returns-clause-range : goal.returns-clause-range
returns-clause-range c = λ depth from name names shares shown named. range_alone depth from name names shares shown

pub returns-clause-absence : goal.returns-clause-absence
returns-clause-absence c = λ depth pos name names shares leaf named. absence_alone depth pos name names shares leaf
