pub mod WrittenRows
pub mod Decoded
pub mod Counting
pub mod Own
