-- Openings that agree with a list or with each other, and the strings that clash where they do not.
pub mod AgreeLemmas
pub mod BreakLemmas
pub mod OtherLeafLemmas
pub mod PutLemmas
pub mod ListedLemmas
pub mod TwinLemmas
pub mod MadeLemmas
pub mod MergeLemmas
