pub mod WidthLemmas
pub mod CutLemmas
pub mod RootLemmas
pub mod PieceLemmas
pub mod DataTreeLemmas
pub mod HeaderLemmas
pub mod RootedLemmas
pub mod RowCutLemmas
pub mod OwnRowLemmas
pub mod CommitOwnLemmas
pub mod WalkLemmas
pub mod FitLemmas
pub mod AcceptLemmas
pub mod RootedRefusalLemmas
pub mod RootedSampleLemmas
pub mod MakingLemmas
pub mod BlobRangeLemmas
pub mod ShapeLemmas
pub mod RowTreeLemmas
pub mod Examples
pub mod GreatestLemmas
pub mod PlaceLemmas
mod UnledLemmas
mod UnopenedLemmas
