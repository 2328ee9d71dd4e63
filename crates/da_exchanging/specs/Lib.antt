-- outputs that are made whole
pub mod Made
-- files that are one answer
pub mod Answers
-- the forms, one a file
pub mod Dah
pub mod Header
pub mod Sample
pub mod NamespaceData
pub mod LeftHalf
pub mod Row
pub mod Ids
pub mod ShareProof
pub mod RowData
pub mod Befp
pub mod Ods
-- all of them
pub mod Forms
-- what they say of each other
pub mod Laws
