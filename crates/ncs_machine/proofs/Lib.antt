pub mod Names
pub mod Frames
pub mod Typed
pub mod Fitting
pub mod Kept
pub mod Leading
pub mod Running
pub mod Calls
pub mod Stepping
pub mod Beginning
mod RemarkLemmas
mod BegunLemmas
