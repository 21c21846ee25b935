pub mod Full
pub mod Halving
pub mod Laws
pub mod Without
