pub mod Recopied
pub mod Grown
pub mod Kept
pub mod Nodes
pub mod Runs
