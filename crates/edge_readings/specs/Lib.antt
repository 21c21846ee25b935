pub mod Naming
pub mod Edges
