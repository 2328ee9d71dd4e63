-- Whether a namespace answer is complete, and what a complete one shows.
pub mod PlaceLemmas
pub mod WalkLemmas
pub mod RefusalLemmas
pub mod EachLemmas
pub mod ColumnLemmas
pub mod CompleteLemmas
pub mod EntryLemmas
pub mod FoundLemmas
pub mod OwnLemmas
