pub mod Sizes
pub mod Events
pub mod Watched
pub mod Watchers
