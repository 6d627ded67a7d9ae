pub mod KnownBytes
pub mod Endings
