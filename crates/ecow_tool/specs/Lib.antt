pub mod Arguments
pub mod Ends
pub mod Programs
