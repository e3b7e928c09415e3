pub mod Why
pub mod Reasons
