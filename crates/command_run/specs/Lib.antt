pub mod Tellings
pub mod Runs
pub mod Laws
