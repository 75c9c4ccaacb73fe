pub mod Writes
pub mod Tidying
pub mod Wiping
pub mod Tables
pub mod Keeps
