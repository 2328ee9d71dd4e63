pub mod SplitLoops
pub mod StepLemmas
