pub mod Pieces
pub mod Rows
pub mod Sound
pub mod Readings
pub mod Sizes
pub mod Listings
mod Places
pub mod Naming
