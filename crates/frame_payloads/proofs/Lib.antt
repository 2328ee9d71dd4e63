pub mod Fields
pub mod Forms
pub mod MessageLengths
pub mod AcceptedClaims
