-- Leaves beside each other: runs, ranges, and the answers to a namespace.
pub mod RunLemmas
pub mod BesideLemmas
pub mod CompleteLemmas
pub mod RangeLemmas
pub mod AbsenceLemmas
pub mod NeighborLemmas
