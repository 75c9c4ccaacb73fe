pub mod Alone
pub mod Rows
