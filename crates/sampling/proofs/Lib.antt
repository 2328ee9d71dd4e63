pub mod ApartLemmas
pub mod TakenLemmas
pub mod DrawLemmas
pub mod WordLemmas
pub mod BlobLemmas
pub mod FittingLemmas
pub mod LayLemmas
mod LimitLemmas
