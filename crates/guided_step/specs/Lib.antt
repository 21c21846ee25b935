pub mod Walks
pub mod Earlier
pub mod Step
