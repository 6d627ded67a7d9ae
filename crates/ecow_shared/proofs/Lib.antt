pub mod Settling
pub mod Owners
pub mod Counting
