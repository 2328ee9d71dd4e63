pub mod BatchLemmas
pub mod PartLemmas
pub mod RootLemmas
pub mod CountLemmas
pub mod PairLemmas
pub mod FoldLemmas
pub mod SpanLemmas
pub mod LevelLemmas
pub mod NameLemmas
pub mod OverLemmas
pub mod JoinLemmas
pub mod AboveLemmas
pub mod TreeLemmas
mod QueueLemmas
