pub mod Fewest
pub mod Unchanged
