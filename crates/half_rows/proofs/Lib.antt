-- the positions of halves
pub mod PlaceLemmas
-- the row that a half is of
pub mod RowLemmas
