pub mod Rewriting
pub mod Case
