pub mod Faults
pub mod Returns
pub mod Nodes
