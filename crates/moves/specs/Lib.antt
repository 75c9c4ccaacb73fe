pub mod Columns
pub mod Moves
