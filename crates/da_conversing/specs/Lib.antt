-- which words are a command that stays
pub mod Words
-- files that are read before TALK is picked
pub mod Inputs
-- SQUARE, held before TALK is picked
pub mod Squares
-- what came of the words of hold
pub mod Courses
-- a talk with whatever replies
pub mod Tellings
-- what came of the words of gather
pub mod Gathers
-- what came of the words of watch
pub mod Watches
-- what came of the words of attend
pub mod Attends
-- what replies have in common with what other commands write
pub mod Laws
