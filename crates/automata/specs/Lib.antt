pub mod Automaton
pub mod Acceptance
pub mod Derivation
pub mod Saturation
pub mod Won
pub mod Facts
pub mod Computing
pub mod Models
