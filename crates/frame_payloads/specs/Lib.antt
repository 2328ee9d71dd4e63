pub mod codec
pub mod Payloads
pub mod kinds
