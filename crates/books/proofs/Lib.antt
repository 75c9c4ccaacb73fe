pub mod Housing
pub mod Owning
