pub mod WritingLemmas
pub mod SideLemmas
pub mod FindLemmas
pub mod MakerLemmas
