pub mod RootLemmas
pub mod LedLemmas
pub mod OpenLemmas
pub mod HashTreeLemmas
