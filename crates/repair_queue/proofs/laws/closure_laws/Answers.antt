use Rattle.std.proofs.Common.{◌≡◌, true}
use Rattle.repair_queue.proofs.Facts.ClosureLemmas.{half_least, fact_least, half_fact, fact_half, half_grows, fact_grows}
use Rattle.repair_queue.proofs.Facts.DerivationLemmas.{half_listed, listed_half, fact_listed, listed_fact}
use Rattle.repair_queue.proofs.laws.closure_laws.Goals as goal

pub returns-clause-cells : goal.returns-clause-cells
returns-clause-cells c = λ header ms cell. (half_fact header ms cell, λ f. fact_half header ms cell f.0 f.1)

pub returns-clause-half_least : goal.returns-clause-half_least
returns-clause-half_least c = λ header ms set. half_least header ms (λ cell. set cell ≡ true)

pub returns-clause-fact_least : goal.returns-clause-fact_least
returns-clause-fact_least c = λ header ms set. fact_least header ms (λ cell share. set cell share ≡ true)

pub returns-clause-grows : goal.returns-clause-grows
returns-clause-grows c = λ header ms others covers cell share. (half_grows header ms others covers cell, fact_grows header ms others covers cell share)

pub returns-clause-same_proved : goal.returns-clause-same_proved
returns-clause-same_proved c = λ header ms others to from cell share. (
  (half_grows header ms others to cell, half_grows header others ms from cell),
  (fact_grows header ms others to cell share, fact_grows header others ms from cell share),
)

pub returns-clause-half_listed : goal.returns-clause-half_listed
returns-clause-half_listed c = λ header ms cell. (half_listed header ms cell, listed_half header ms cell)

pub returns-clause-fact_listed : goal.returns-clause-fact_listed
returns-clause-fact_listed c = λ header ms cell share. (fact_listed header ms cell share, listed_fact header ms cell share)
