-- content and the zeros behind it
pub mod Fill
-- checks that passed, one after another
pub mod Checks
-- the fields of a share as parts of its bytes
pub mod Cuts
-- the signer of a first share
pub mod Signers
-- the shares of blobs by their fields
pub mod Fields
-- compact shares by their fields
pub mod CompactFields
-- the first share whose reserved bytes are wrong
pub mod Reserved
-- the later shares of a sequence
pub mod Runs
-- a share that is the next of a sequence passes its checks
pub mod Sequence
-- a share that passes its checks is the next of a sequence
pub mod Next
-- the walk over the shares of blobs
pub mod BlobWalk
-- the shares of blobs are read as these
pub mod BlobRead
-- a sequence that was read is a blob or padding
pub mod Pieces
-- shares that are read as blobs are theirs
pub mod BlobTold
-- what reading blobs answers
pub mod BlobAnswer
-- the walk over compact shares
pub mod UnitWalk
-- one unit at the front of a text
pub mod Unit
-- the units of a text, one by one
pub mod Text
-- a text is read as its units, and no other
pub mod TextLaws
-- the compact shares of units are read as these
pub mod UnitRead
-- shares that are read as a sequence are its shares
pub mod SequenceTold
-- shares that are read as units are theirs
pub mod UnitTold
-- shares are read as what they are the shares of, and as nothing else
pub mod JoinLaws
-- why a share of an open sequence is refused
pub mod Causes
-- which share a refusal names
pub mod Named
-- the first share whose reserved bytes are wrong
pub mod Misstated
