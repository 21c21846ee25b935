pub mod Contents
pub mod Records
pub mod Laws
