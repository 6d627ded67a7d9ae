pub mod Pieces
pub mod Meanings
pub mod Holes
pub mod Said
pub mod Trees
pub mod Runs
pub mod Laid
