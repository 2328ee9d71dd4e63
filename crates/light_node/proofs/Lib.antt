pub mod EventLemmas
mod LawLemmas
pub mod ListLemmas
pub mod DistinctLemmas
mod FailingLemmas
mod StateLemmas
mod StepLemmas
mod PickLemmas
pub mod StandingLemmas
