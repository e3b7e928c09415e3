pub mod Games
pub mod Tellings
pub mod Stops
pub mod Files
pub mod Reads
pub mod Laws
pub mod Named
