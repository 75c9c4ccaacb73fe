pub mod Filling
pub mod Reading
pub mod Writing
pub mod Uses
