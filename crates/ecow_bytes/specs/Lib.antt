pub mod Counts
pub mod Form
pub mod Hashes
pub mod Lends
pub mod Makes
pub mod Rewrites
pub mod Digits
