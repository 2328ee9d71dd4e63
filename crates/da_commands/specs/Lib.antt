pub mod Net
pub mod Show
pub mod Demo
pub mod Help
pub mod Cells
pub mod Meaning
