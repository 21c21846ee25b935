pub mod Files
pub mod Computing
pub mod Examples
