pub mod Kept
pub mod Overwritten
