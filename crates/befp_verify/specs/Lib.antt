pub mod Lines
pub mod Refusals
pub mod Rooms
pub mod Accepted
pub mod Compacting
pub mod Placed
