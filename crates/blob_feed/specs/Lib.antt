pub mod Filters
pub mod Feeds
pub mod Firsts
pub mod Laws
pub mod Followers
