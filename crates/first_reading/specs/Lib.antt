pub mod First
pub mod Search
pub mod Answer
pub mod Words
pub mod Reach
