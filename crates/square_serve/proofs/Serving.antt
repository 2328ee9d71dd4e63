-- What a node that holds a square answers.
pub mod CountLemmas
pub mod PlaceLemmas
pub mod StoredLemmas
pub mod EntryLemmas
pub mod FoundLemmas
pub mod OpeningLemmas
pub mod SizeLemmas
pub mod ShownLemmas
pub mod AnswerLemmas
pub mod OnlyLemmas
pub mod OwnLemmas
