pub mod Ones
pub mod Pickers
