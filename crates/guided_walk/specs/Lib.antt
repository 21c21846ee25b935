pub mod Stepped
pub mod Turns
pub mod Laws
