-- readings that came of several steps
pub mod Steps
-- fields at the front of bytes
pub mod Fronts
-- digests, written and read
pub mod DigestLemmas
-- where values of one size lie
pub mod EntryListLemmas
-- where digests lie
pub mod EntryLemmas
-- loops that read values
pub mod ValueLoops
-- the loop that counts digests
pub mod CountLoops
-- lenient reading of digests
pub mod CommonLemmas
-- numbers and messages in messages
pub mod MessageLemmas
-- proofs of leaves that are shown
pub mod InclusionLemmas
-- how long fields are
pub mod SizeLemmas
-- lenient reading of proofs
pub mod ProofFields
-- samples
pub mod SampleLemmas
-- shares in repeated fields, written and read
pub mod ShareLemmas
-- where shares lie
pub mod ShareEntries
-- the loop that counts shares
pub mod ShareLoops
-- proofs of a row's shares, or of an absence
pub mod RowProofLemmas
-- lenient reading of them
pub mod RowProofFields
-- what is found in a row
pub mod RowDataLemmas
-- lenient reading of it
pub mod RowDataFields
-- streams of what is found in rows
pub mod NamespaceDataLemmas
-- the loops that read and write them
pub mod NamespaceDataLoops
-- headers
pub mod HeaderLemmas
-- fields that are looked for
pub mod ExtendedFields
-- what is read as an extended header, and what is one
pub mod ExtendedLemmas
pub mod ExtendedReading
-- identifiers
pub mod IdLemmas
-- shares at even distances
pub mod ShareListLemmas
-- squares as their shares alone
pub mod OdsLemmas
-- half rows
pub mod HalfRowLemmas
-- the places of bad encoding proofs
pub mod PlaceLoops
-- the places of bad encoding proofs, written
pub mod PlaceTexts
-- the number of an axis in a field
pub mod AxisLemmas
-- proofs of one leaf with a flag
pub mod FlagLemmas
-- shares with their proofs
pub mod PlaceEntries
-- cells by the places of their axis
pub mod PlaceCells
-- the places of bad encoding proofs, written and read
pub mod PlaceLemmas
-- bad encoding proofs, read back
pub mod BefpLemmas
-- lenient reading of them
pub mod BefpFields
-- fields that may be there, and hashes
pub mod AuntLemmas
-- the loop that gathers hashes
pub mod AuntLoops
-- proofs of one share of a row
pub mod SharePathLemmas
-- rows with their proofs under the data root
pub mod RootedRowLemmas
-- root proofs along a row
pub mod ShareProofLemmas
-- how long these are
pub mod RootedSizes
-- lenient reading of them
pub mod ShareProofFields
