pub mod Batches
pub mod Queues
pub mod Digests
pub mod Roots
pub mod Levels
pub mod Spans
pub mod Trees
