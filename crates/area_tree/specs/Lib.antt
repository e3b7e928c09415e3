pub mod Reading
pub mod Index
pub mod Scripts
