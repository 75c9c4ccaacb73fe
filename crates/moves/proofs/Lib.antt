pub mod Carrying
pub mod Firings
pub mod Fusing
pub mod Leaving
pub mod Marks
pub mod Sources
