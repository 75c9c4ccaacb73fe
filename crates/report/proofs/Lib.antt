pub mod Readings
pub mod Ends
pub mod Printing
