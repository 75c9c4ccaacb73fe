pub mod Faults
pub mod Streams
pub mod Written
