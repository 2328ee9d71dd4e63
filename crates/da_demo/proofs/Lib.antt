pub mod GatheredLemmas
pub mod HalfLemmas
pub mod CheatLemmas
pub mod TrialLemmas
pub mod TellLemmas
