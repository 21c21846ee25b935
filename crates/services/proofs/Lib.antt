pub mod Saturate
pub mod Replay
pub mod Laws
pub mod Judge
pub mod Guide
pub mod Told
pub mod Parts
