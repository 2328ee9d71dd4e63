pub mod Codewords
pub mod Locators
pub mod Laws
