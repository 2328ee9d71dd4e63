pub mod Facts
pub mod Places
pub mod Counting
pub mod Lines
pub mod Feeding
