pub mod Owners
pub mod OwnerLends
pub mod formers
