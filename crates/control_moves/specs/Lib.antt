pub mod First
pub mod Control
