pub mod WrittenBelow
pub mod Marks
pub mod Service
