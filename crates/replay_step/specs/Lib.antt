pub mod Top
pub mod Place
