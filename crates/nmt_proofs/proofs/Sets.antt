-- Leaves that are a set, and subtrees beside each other.
pub mod SetLemmas
pub mod SetLawLemmas
pub mod TileLemmas
pub mod TileCountLemmas
pub mod FewLemmas
pub mod PieceLawLemmas
