pub mod Numbers
pub mod Named
