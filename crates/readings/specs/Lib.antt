pub mod Readings
pub mod Indexed
pub mod Before
pub mod Turns
pub mod Memo
pub mod Gathering
