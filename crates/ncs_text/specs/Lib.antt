pub mod Arguments
pub mod Assembly
pub mod Listing
pub mod Steps
pub mod Laws
