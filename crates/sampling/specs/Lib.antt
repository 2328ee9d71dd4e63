pub mod Words
pub mod Draws
pub mod Taken
pub mod Generated
