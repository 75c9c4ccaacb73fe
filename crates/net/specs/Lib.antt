pub mod Sheets
pub mod Tidy
pub mod Refusals
pub mod States
pub mod Looks
pub mod Drafts
pub mod Qualities
pub mod Views
