pub mod Variables
pub mod Kept
pub mod Laws
