pub mod Place
pub mod Shown
