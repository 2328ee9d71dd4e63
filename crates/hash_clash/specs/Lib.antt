pub mod Preimages
pub mod Collisions
pub mod Sides
pub mod Openings
