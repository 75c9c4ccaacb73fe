pub mod Appending
pub mod Closing
pub mod Copying
pub mod Keeping
mod Leaving
mod Limiting
pub mod Marking
pub mod Sized
pub mod Kept
pub mod Those
pub mod Parts
pub mod Reading
