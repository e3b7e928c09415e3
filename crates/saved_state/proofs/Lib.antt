mod Depths
mod Examples
pub mod Folds
pub mod Piles
pub mod Lists
pub mod Lasts
pub mod Pieces
pub mod Places
mod Resuming
pub mod Rows
pub mod Runs
mod Views
