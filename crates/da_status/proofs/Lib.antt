pub mod DigitLemmas
pub mod WriteLemmas
pub mod EndLemmas
