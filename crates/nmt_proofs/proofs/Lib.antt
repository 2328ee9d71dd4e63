pub mod Parts
pub mod Agreement
pub mod Neighbors
pub mod Sets
pub mod PartialLemmas
pub mod WriteLemmas
