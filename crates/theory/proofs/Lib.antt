-- Runs and simulations, then the law of each step over abstract nets, and the law of all.
pub mod Runs
pub mod Drops
pub mod Places
pub mod Post
pub mod Pre
pub mod Advance
pub mod Fuse
pub mod Limit
pub mod Law
-- Tests and what they say; exactness.
pub mod Says
pub mod Meaning
pub mod Exact
-- The next states: the nets that they hold, their qualities, and the law of all steps.
pub mod Members
pub mod Listed
pub mod Rewriting
pub mod Kept
pub mod Bounds
pub mod Lawful
-- Steps that would be wrong.
pub mod Mistakes
