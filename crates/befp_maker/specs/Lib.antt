pub mod Rooms
pub mod Halves
pub mod Conflicts
pub mod Gathered
