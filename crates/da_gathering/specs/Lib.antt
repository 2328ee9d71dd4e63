pub mod Gatherings
pub mod Fed
pub mod Gathered
