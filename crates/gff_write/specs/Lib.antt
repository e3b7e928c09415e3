pub mod Flat
pub mod File
pub mod Laws
pub mod Size
pub mod Labels
