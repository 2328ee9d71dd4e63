pub mod Bounds
pub mod Cuts
pub mod Commitments
pub mod DataTrees
pub mod Proofs
pub mod Refusals
pub mod Places
pub mod Making
