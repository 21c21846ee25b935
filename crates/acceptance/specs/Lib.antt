pub mod Put
pub mod Named
pub mod Cells
pub mod Table
pub mod Laws
