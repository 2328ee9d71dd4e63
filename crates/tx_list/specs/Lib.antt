-- payments for blobs, and lists of transactions that were read
pub mod Payments
-- payments as their compact shares have them
pub mod Wrapped
-- the room that is reserved for them
pub mod Reserves
-- where blobs start
pub mod Places
-- the square of a list
pub mod Lists
-- why no square holds it
pub mod Refusals
-- what single steps do
pub mod Steps
-- the one spelling of payments
pub mod Spelled
-- what transactions are read as
pub mod Reads
-- why they are not
pub mod ReadRefusals
-- what the steps of reading answer
pub mod Walks
-- what is promised of reading for all lists
pub mod ReadLaws
-- lists whose parts are bytes
pub mod OfBytes
-- what wrapped payments are read as
pub mod Unwrapped
-- the list that a square is laid out as
pub mod Backs
-- what list a square is read as, and why it is laid out as none
pub mod BackRefusals
-- where the square of a list is that of a block
pub mod Gaps
-- the places that payments state
pub mod Ranges
-- how much room blobs ask for before they are kept
pub mod Measures
