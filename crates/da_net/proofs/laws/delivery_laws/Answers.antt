use Rattle.da_net.proofs.HandedLemmas.{was_handed, hands, stays_handed, handed_pooled, handed_goes_on}
use Rattle.da_net.proofs.laws.delivery_laws.Goals as goal

pub returns-clause-handed : goal.returns-clause-handed
returns-clause-handed c = λ pool steps node one. (was_handed pool steps node one, hands pool steps node one)

pub returns-clause-stays : goal.returns-clause-stays
returns-clause-stays c = stays_handed

pub returns-clause-pooled : goal.returns-clause-pooled
returns-clause-pooled c = handed_pooled

pub returns-clause-goes_on : goal.returns-clause-goes_on
returns-clause-goes_on c = handed_goes_on
