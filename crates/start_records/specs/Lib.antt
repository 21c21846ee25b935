pub mod Values
pub mod Cells
pub mod Body
