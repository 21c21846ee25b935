pub mod Halt
pub mod Run
pub mod Prefix
pub mod Decoration
pub mod Simulation
pub mod Arrival
pub mod LeastChoice
