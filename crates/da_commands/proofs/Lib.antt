pub mod Answering
pub mod MeaningLemmas
