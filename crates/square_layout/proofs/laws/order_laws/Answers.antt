use Rattle.square_layout.proofs.OrderLawLemmas.{in_order-ascends, filter-in_order}
use Rattle.square_layout.proofs.laws.order_laws.Goals as goal

pub returns-clause-ascending : goal.returns-clause-ascending
returns-clause-ascending c = in_order-ascends

pub returns-clause-stable : goal.returns-clause-stable
returns-clause-stable c = filter-in_order
