use Rattle.square_layout.proofs.PlaceLemmas.{start_after-ge, start_after-near}
use Rattle.square_layout.proofs.StandingLemmas.{start_after-aligned, blob_stands, compact_stands, gap_stands, tail_stands}
use Rattle.square_layout.proofs.laws.start_laws.Goals as goal

pub returns-clause-behind : goal.returns-clause-behind
returns-clause-behind c = start_after-ge

pub returns-clause-near : goal.returns-clause-near
returns-clause-near c = start_after-near

pub returns-clause-aligned : goal.returns-clause-aligned
returns-clause-aligned c = start_after-aligned

pub returns-clause-stands : goal.returns-clause-stands
returns-clause-stands c = blob_stands

pub returns-clause-front : goal.returns-clause-front
returns-clause-front c = compact_stands

pub returns-clause-gap : goal.returns-clause-gap
returns-clause-gap c = gap_stands

pub returns-clause-tail : goal.returns-clause-tail
returns-clause-tail c = tail_stands
