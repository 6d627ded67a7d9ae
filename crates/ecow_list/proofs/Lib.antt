mod Deduped
mod Ends
pub mod Equals
pub mod Fronts
pub mod Items
pub mod Kept
pub mod Loans
pub mod Pieces
pub mod Places
pub mod Ranges
pub mod Replaced
pub mod ResultTyped
pub mod Sorted
pub mod Views
pub mod Popped
