pub mod Sessions
pub mod Gathered
pub mod Trials
pub mod Steps
