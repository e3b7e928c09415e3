pub mod Layout
pub mod Operations
pub mod Expressions
pub mod Statements
pub mod Units
pub mod Bounds
pub mod Laws
pub mod Parts
