pub mod Follow
pub mod Heights
pub mod Listed
