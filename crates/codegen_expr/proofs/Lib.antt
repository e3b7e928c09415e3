pub mod Dropping
pub mod Rows
pub mod Nodes
pub mod Ready
pub mod Above
