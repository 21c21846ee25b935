pub mod Prepared
pub mod Starts
pub mod Laws
