pub mod Premises
pub mod Reads
pub mod Steps
pub mod Settled
