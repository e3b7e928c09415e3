pub mod Worlds
pub mod Fresh
