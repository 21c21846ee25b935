-- Laws about definitions of the crates below.
-- Assumes nothing.
pub mod Bodies
pub mod Increasing
