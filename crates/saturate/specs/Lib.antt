pub mod Case
pub mod Service
