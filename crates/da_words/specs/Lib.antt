pub mod Commands
pub mod Values
pub mod Forms
pub mod Words
