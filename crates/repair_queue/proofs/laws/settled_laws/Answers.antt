use Rattle.repair_queue.proofs.Facts.SettledLemmas.{settled_fits, fits_settles, fits_once, fact_on_line, cells_fit}
use Rattle.repair_queue.proofs.Facts.GrowthLemmas.{settled_same}
use Rattle.repair_queue.proofs.laws.settled_laws.Goals as goal

pub returns-clause-fits : goal.returns-clause-fits
returns-clause-fits c = λ header ms. (
  (λ settled. ((λ axis i d. (settled axis i d).shares), settled_fits header ms settled)),
  λ found. fits_settles header ms found.0 found.1,
)

pub returns-clause-one : goal.returns-clause-one
returns-clause-one c = fits_once

pub returns-clause-facts : goal.returns-clause-facts
returns-clause-facts c = fact_on_line

pub returns-clause-cells : goal.returns-clause-cells
returns-clause-cells c = cells_fit

pub returns-clause-same_proved : goal.returns-clause-same_proved
returns-clause-same_proved c = λ header ms others to from. (settled_same header ms others to from, settled_same header others ms from to)
