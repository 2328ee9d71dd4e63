-- numbers of up to 64 bits as varints
pub mod Varints
-- fields as they are read
pub mod Fields
-- the values that calls answer
pub mod Values
-- fields as they are written
pub mod Spelled
-- what of fields is promised for all of them
pub mod Laws
-- fields in their one spelling, as they are read
pub mod Canonical
-- what of these is promised for all of them
pub mod CanonicalLaws
