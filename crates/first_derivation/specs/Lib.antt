pub mod Search
pub mod Premises
pub mod Derived
