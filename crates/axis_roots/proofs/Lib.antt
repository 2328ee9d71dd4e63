pub mod Grids
pub mod Messages
