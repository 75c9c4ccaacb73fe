pub mod Frames
pub mod Faults
pub mod Joins
pub mod House
pub mod Joining
