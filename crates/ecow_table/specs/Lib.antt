pub mod Tables
pub mod Loans
