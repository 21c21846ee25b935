-- Laws about definitions of the crates below.
-- Assumes nothing.
pub mod Walks
pub mod Lines
