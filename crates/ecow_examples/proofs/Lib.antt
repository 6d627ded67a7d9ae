pub mod Tables
pub mod BlockFacts
pub mod MemoryFacts
