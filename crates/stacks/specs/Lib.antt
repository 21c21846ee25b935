pub mod Stack
pub mod System
pub mod Published
