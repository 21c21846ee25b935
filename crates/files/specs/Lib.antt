pub mod Bytes
pub mod Codes
pub mod Writing
pub mod Case
pub mod Start
pub mod Rewriting
