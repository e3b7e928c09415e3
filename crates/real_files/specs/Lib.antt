pub mod Disk
pub mod Writing
pub mod Real
