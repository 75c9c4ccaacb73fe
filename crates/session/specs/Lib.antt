pub mod Faults
pub mod Views
pub mod Feeds
pub mod Calls
