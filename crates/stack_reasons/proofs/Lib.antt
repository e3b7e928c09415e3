pub mod Refuting
pub mod Walking
pub mod Starting
pub mod Knowing
