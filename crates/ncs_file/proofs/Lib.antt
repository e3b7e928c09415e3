mod Lists
pub mod Places
pub mod Scanning
pub mod Loaded
mod OneFault
mod Following
