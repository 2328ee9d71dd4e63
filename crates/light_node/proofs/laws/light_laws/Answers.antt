use Rattle.light_node.proofs.LawLemmas.{light_once, state_once, light_state, same_state, stays_rejected, first_stays}
use Rattle.light_node.proofs.StandingLemmas.{state_distinct, distinct_state}
use Rattle.light_node.proofs.laws.light_laws.Goals as goal

pub returns-clause-once : goal.returns-clause-once
returns-clause-once c = light_once

pub returns-clause-state_once : goal.returns-clause-state_once
returns-clause-state_once c = state_once

pub returns-clause-state : goal.returns-clause-state
returns-clause-state c = light_state

pub returns-clause-order : goal.returns-clause-order
returns-clause-order c = same_state

pub returns-clause-rejected : goal.returns-clause-rejected
returns-clause-rejected c = stays_rejected

pub returns-clause-kept : goal.returns-clause-kept
returns-clause-kept c = first_stays

pub returns-clause-distinct : goal.returns-clause-distinct
returns-clause-distinct c = λ header plan events one. (state_distinct header plan events one, distinct_state header plan events one)
