pub mod Start
pub mod Service
