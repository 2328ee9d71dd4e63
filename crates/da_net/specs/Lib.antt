pub mod Networks
pub mod Promises
pub mod Laws
pub mod Nodes
pub mod Nets
pub mod StepRefusals
pub mod Seats
