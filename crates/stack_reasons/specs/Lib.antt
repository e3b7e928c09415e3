pub mod Ways
pub mod Reasons
pub mod Walks
