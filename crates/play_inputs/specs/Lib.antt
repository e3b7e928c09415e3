pub mod Areas
pub mod Plans
pub mod Finals
pub mod Wanted
pub mod Laws
pub mod Listings
pub mod Reads
pub mod ListingLaws
