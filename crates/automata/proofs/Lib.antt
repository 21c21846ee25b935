pub mod Saturation
pub mod Derivation
pub mod Acceptance
