-- the row that a half is of, and its samples
pub mod Rows
-- what is promised of all of them
pub mod Laws
