pub mod Blocks
pub mod Layout
pub mod Refusals
pub mod ShareNames
pub mod Laws
pub mod Plans
