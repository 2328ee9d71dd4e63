mod DigestLemmas
mod LaneLemmas
mod MajLemmas
mod PaddingLemmas
mod RotationLemmas
pub mod MessageLemmas
