-- A session: what it keeps, what is fed to it, what ends it, and what it answers.
pub mod StandLemmas
pub mod AtRestLemmas
pub mod KeepNewLemmas
pub mod JudgeLemmas
pub mod TakeLemmas
pub mod AccuseLemmas
pub mod DrainLemmas
pub mod SessionLemmas
pub mod FinishLemmas
pub mod ViewLemmas
pub mod SharesLemmas
pub mod CoverageLemmas
