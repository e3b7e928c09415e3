pub mod Headers
pub mod Units
pub mod Scripts
pub mod Reading
pub mod Reads
pub mod Laws
