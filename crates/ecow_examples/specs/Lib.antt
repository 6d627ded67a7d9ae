pub mod Tables
pub mod BlockScripts
pub mod Memory
