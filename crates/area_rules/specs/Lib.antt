pub mod Objects
pub mod Broken
pub mod Area
pub mod Laws
