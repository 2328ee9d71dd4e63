pub mod Contents
pub mod Frames
pub mod Forms
pub mod Requests
pub mod Lines
