-- Rows and columns: gathered, rebuilt, rooted, written and kept.
pub mod LinedLemmas
pub mod GatherLemmas
pub mod CompleteLemmas
pub mod DigestLemmas
pub mod WriteLemmas
pub mod MakeLemmas
pub mod DecideLemmas
pub mod KeepLineLemmas
pub mod ClearLemmas
