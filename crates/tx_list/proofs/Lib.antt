-- blobs with their numbers, and the places that are written at these
pub mod PlaceLemmas
-- payments, wrapped one after another
pub mod WrapLemmas
-- units as bytes behind their length
pub mod UnitTextLemmas
-- what is reserved is enough
pub mod ReserveLemmas
-- a list can be planned
pub mod ListLemmas
-- each blob stands at its place
pub mod StandingLemmas
-- the blobs that a payment carries
pub mod EntryLemmas
-- what a walk over fields keeps
pub mod KeptLemmas
-- the first check that fails
pub mod CheckLemmas
-- transactions that no check refuses
pub mod TakingLemmas
-- the checks of a transaction in one walk
pub mod JudgeLemmas
-- blobs in their one spelling, read back
pub mod SpelledBlobLemmas
-- payments and lists in it
pub mod SpelledListLemmas
-- what was read, spelled and read again
pub mod AgainLemmas
-- the square of a list, and its shares
pub mod SquareLemmas
-- wrapped payments, read back
pub mod UnwrapLemmas
-- the two fronts of a square
pub mod RunLemmas
-- the square of a list, read back
pub mod BackLemmas
-- one list at most, which is found
pub mod BackLawLemmas
-- the walks from a square back to its list
pub mod UnlayLemmas
-- varints as places
pub mod NumberLemmas
-- where the square of a list is that of a block
pub mod GapLemmas
-- the places that payments state
pub mod RangeLemmas
-- what blobs ask for, and what is known of them
pub mod MeasureLemmas
-- what is found at a share is a blob
pub mod FindLemmas
-- what is read of the list of a square
pub mod StatedLemmas
-- payments, wrapped as long as their places can make them
pub mod FullLemmas
-- a list that a square doesn't hold
pub mod WideLemmas
-- the shares of one namespace in the square of a list
pub mod NamespaceLemmas
