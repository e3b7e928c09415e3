pub mod Label
pub mod Tree
pub mod Fields
pub mod Places
pub mod Readings
pub mod Count
pub mod Code
pub mod Whole
