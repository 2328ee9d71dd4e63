-- Samples, certificates and fraud claims.
pub mod SizeLemmas
pub mod MessageLemmas
pub mod HalfLemmas
pub mod OwnLemmas
pub mod ClaimLemmas
pub mod SetLemmas
pub mod FalseClaimLemmas
pub mod ProofLemmas
pub mod PartialLemmas
