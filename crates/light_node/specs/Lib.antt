pub mod Events
pub mod Plans
pub mod Nodes
