pub mod Offers
pub mod Holding
