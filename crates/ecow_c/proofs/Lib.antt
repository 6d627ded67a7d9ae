pub mod Items
pub mod Lent
pub mod Spliced
pub mod Tails
