pub mod Refusals
pub mod Reading
pub mod Loans
