pub mod Capacity
pub mod Clones
pub mod Range
pub mod Inline
pub mod Utf8
pub mod Replaced
pub mod Plain
