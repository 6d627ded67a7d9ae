pub mod Settling
pub mod Owners
pub mod Counting
pub mod Calls
pub mod Steps
pub mod Owned
