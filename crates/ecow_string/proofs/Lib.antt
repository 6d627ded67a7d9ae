mod Cased
mod Chars
mod Enough
mod Joined
mod Limits
mod Moved
mod Occurrences
pub mod Places
mod Printed
mod Removal
mod Repeats
pub mod Replaced
pub mod Seams
mod Steps
pub mod Texts
