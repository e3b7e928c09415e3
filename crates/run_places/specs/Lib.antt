pub mod Scripts
pub mod Spots
