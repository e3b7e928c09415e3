pub mod Places
pub mod Slots
pub mod Entries
pub mod Cases
pub mod Views
pub mod Laws
