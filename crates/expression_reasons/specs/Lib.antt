pub mod Why
pub mod Seen
pub mod Reasons
pub mod Walked
pub mod Rows
