-- picks
pub mod PickLemmas
-- talks that end with their input
pub mod WholeLemmas
-- replies, and what commands write
pub mod ReplyLemmas
pub mod SameLemmas
-- watches
pub mod WatchLemmas
-- talks about namespaces
pub mod AttendLemmas
