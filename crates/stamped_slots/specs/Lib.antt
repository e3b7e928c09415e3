pub mod Stamps
pub mod Firsts
pub mod Index
pub mod StampLemmas
pub mod Kept
