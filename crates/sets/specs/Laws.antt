-- Laws about definitions of the crate below.
-- Assumes nothing.
pub mod Bounds
