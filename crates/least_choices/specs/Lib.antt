pub mod Choices
pub mod Starts
