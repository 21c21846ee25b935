pub mod Proof
pub mod Answer
