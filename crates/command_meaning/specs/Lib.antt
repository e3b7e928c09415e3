pub mod Units
pub mod Files
pub mod Runs
pub mod Scripts
pub mod ListedPlays
pub mod CodeEnds
pub mod WithoutActions
pub mod Once
