pub mod Prepared
pub mod Running
pub mod Turns
pub mod Layout
pub mod Held
pub mod Sizes
