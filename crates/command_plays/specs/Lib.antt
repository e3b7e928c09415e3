pub mod Plays
pub mod Scripts
pub mod Tellings
pub mod Laws
