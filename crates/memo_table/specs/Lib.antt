pub mod States
pub mod Layout
