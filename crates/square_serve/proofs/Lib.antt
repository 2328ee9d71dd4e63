pub mod PassingLemmas
mod RowLemmas
mod RowTreeLemmas
mod RowFrontLemmas
mod FindingLemmas
mod WantedLemmas
mod HeaderLemmas
mod OrderingLemmas
mod NeededLemmas
mod Judging
mod Serving
