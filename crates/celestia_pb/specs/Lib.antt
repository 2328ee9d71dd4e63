-- what reading a message to its end gives
pub mod Reading
-- values of one size
pub mod EntryLists
-- digests in repeated fields
pub mod Digests
-- numbers and messages in messages
pub mod Messages
-- proofs of leaves that are shown
pub mod Inclusions
-- samples
pub mod Samples
-- headers
pub mod Headers
-- what of headers is promised for all of them
pub mod Laws
-- extended headers
pub mod Extended
-- what of them is promised
pub mod ExtendedLaws
-- what of samples is
pub mod SampleLaws
-- identifiers
pub mod Ids
-- shares at even distances
pub mod ShareLists
-- original squares
pub mod Ods
-- half rows, and what is promised of all of them
pub mod HalfRows
-- shares in repeated fields
pub mod RowShares
-- proofs of a row's shares, or of an absence
pub mod RowProofs
-- what is found in a row
pub mod RowData
-- what its reader gathers
pub mod RowParts
-- what of it is promised
pub mod RowDataLaws
-- streams of what is found in rows
pub mod NamespaceData
-- the places of bad encoding proofs
pub mod BefpEntries
-- bad encoding proofs
pub mod Befp
-- what of them is promised
pub mod BefpLaws
-- fields that may be there, and hashes
pub mod Aunts
-- proofs of one share of a row
pub mod SharePaths
-- rows with their proofs under the data root
pub mod RootedRows
-- root proofs along a row
pub mod ShareProofs
-- what of them is promised
pub mod ShareProofLaws
