pub mod Tables
pub mod Run
pub mod Walk
