pub mod HandedLemmas
pub mod PromiseLemmas
pub mod GrowthLemmas
pub mod FullLemmas
pub mod LightLemmas
pub mod SeatLemmas
pub mod NetLemmas
pub mod MissingLemmas
pub mod StateLemmas
pub mod MakingLemmas
pub mod RefusalLemmas
mod StepRefusalLemmas
mod LimitLemmas
