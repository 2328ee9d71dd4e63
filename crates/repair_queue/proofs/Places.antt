-- Places of cells and of samples, and the samples that are kept at them.
pub mod PlaceLemmas
pub mod ApartLemmas
pub mod PutLemmas
pub mod TakenLemmas
pub mod TakeFromLemmas
pub mod PoolLemmas
pub mod PutInLemmas
pub mod TakeOutLemmas
pub mod GrownLemmas
