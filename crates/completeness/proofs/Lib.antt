pub mod Reading
pub mod Turn
pub mod Complete
