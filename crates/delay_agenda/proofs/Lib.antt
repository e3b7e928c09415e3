mod Examples
pub mod Kept
mod LawLemmas
pub mod OrderLemmas
pub mod Placing
pub mod Rows
pub mod Turns
pub mod StampLemmas
pub mod Index
pub mod DueLemmas
pub mod LineLemmas
