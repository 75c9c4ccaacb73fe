pub mod Sounds
pub mod Feeds
pub mod Faithful
pub mod Places
