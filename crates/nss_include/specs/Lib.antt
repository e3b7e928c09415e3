pub mod Names
pub mod Pieces
pub mod Units
pub mod View
pub mod Gather
pub mod Steps
pub mod Walks
pub mod Progress
