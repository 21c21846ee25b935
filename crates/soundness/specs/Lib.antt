pub mod Decorated
pub mod Facts
pub mod Choices
pub mod Meaning
pub mod Step
pub mod Used
pub mod Lemma
