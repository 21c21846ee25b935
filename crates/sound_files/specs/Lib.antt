pub mod Starts
pub mod Sound
pub mod Refusal
pub mod Saturated
