pub mod Headers
pub mod Paths
pub mod DataRoots
pub mod HashTrees
