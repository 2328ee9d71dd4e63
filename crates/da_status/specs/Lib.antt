pub mod Statuses
pub mod Outcome
pub mod Judging
pub mod Notes
