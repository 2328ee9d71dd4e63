pub mod Attended
pub mod Attenders
pub mod Laws
pub mod Orders
