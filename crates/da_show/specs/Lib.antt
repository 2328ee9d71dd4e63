pub mod Parts
pub mod Text
pub mod Json
pub mod JsonTexts
