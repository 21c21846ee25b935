pub mod Theorem
pub mod Own
pub mod Lemma
pub mod Left
