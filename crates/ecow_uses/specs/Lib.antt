pub mod History
pub mod Template
pub mod Scopes
pub mod Trees
