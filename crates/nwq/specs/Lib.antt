pub mod Ending
pub mod Reads
