pub mod Runs
pub mod Entering
pub mod Cutting
pub mod Pausing
pub mod Turning
pub mod Playing
pub mod Whole
pub mod EndLemmas
mod Examples
pub mod Resting
