-- answers that came of several steps
pub mod Options
-- varints
pub mod Varint
-- readers at the front of bytes: of numbers, tags and values
pub mod Readers
-- groups, and the field at the front
pub mod GroupLemmas
-- groups that are open at once
pub mod OpenLemmas
-- fields one after another, and the last of a number
pub mod FieldLemmas
-- fields that were written
pub mod WrittenLemmas
-- shortest varints, and what stands behind their length
pub mod CanonicalVarints
-- fields in their one spelling
pub mod CanonicalLemmas
-- worked examples
mod Examples
