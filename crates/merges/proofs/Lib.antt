pub mod Alone
pub mod Judging
pub mod Limits
pub mod Weights
