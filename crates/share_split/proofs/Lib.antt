-- shares of blobs and of units, and where units start in them
pub mod Writing
-- shares that are read back
pub mod Reading
-- the widths of subtrees
pub mod Width
pub mod Examples
