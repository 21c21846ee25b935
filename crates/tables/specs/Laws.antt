-- Laws about definitions of the crates below.
-- Assumes nothing.
pub mod Searches
pub mod Exact
pub mod Filled
