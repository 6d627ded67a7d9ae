pub mod Appends
pub mod Case
pub mod Makes
pub mod Replace
pub mod Text
