pub mod Limiting
pub mod Flagging
