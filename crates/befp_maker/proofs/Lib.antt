mod MessageLemmas
mod CellLemmas
mod DecisionLemmas
mod RootLemmas
pub mod GatheredLemmas
mod PlaceLemmas
mod AgainstLemmas
pub mod WithLemmas
