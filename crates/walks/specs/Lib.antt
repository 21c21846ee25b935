pub mod Cell
pub mod Guide
pub mod Computing
pub mod Models
