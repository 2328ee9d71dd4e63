mod EachLemmas
pub mod ZipLemmas
mod ShownLemmas
mod CountLemmas
mod HeightLemmas
pub mod NameLemmas
mod FedLemmas
mod OnceLemmas
mod StandLemmas
mod OwnLemmas
pub mod RowLemmas
mod BlockLemmas
mod SquareLemmas
mod StayLemmas
pub mod FirstLemmas
