pub mod Checkpoints
pub mod CheckpointsLemmas
