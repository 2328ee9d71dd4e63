pub mod Scripts
pub mod Plays
pub mod Parts
pub mod Alarms
