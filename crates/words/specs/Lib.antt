pub mod Sets
pub mod Lists
pub mod Order
pub mod Copied
pub mod Laws
