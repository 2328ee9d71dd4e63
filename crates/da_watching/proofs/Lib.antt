pub mod ClaimLengths
pub mod FedLemmas
pub mod HandedLemmas
pub mod VerdictLemmas
pub mod LedLemmas
pub mod ReplyLemmas
pub mod LightLemmas
pub mod OnceLemmas
