pub mod Rules
pub mod Steps
pub mod Entries
pub mod Uses
pub mod Collecting
