use Rattle.namespace_id.proofs.OrderLemmas.{at_most_refl, at_most_trans, at_most_antisym, at_most_total, at_most_parity}
use Rattle.namespace_id.proofs.namespaces.namespace_order.Goals as goal

pub returns-clause-reflexive : goal.returns-clause-reflexive
returns-clause-reflexive c = at_most_refl

pub returns-clause-transitive : goal.returns-clause-transitive
returns-clause-transitive c = at_most_trans

pub returns-clause-antisymmetric : goal.returns-clause-antisymmetric
returns-clause-antisymmetric c = at_most_antisym

pub returns-clause-total : goal.returns-clause-total
returns-clause-total c = at_most_total

pub returns-clause-parity : goal.returns-clause-parity
returns-clause-parity c = at_most_parity
