pub mod Views
pub mod Arguments
pub mod Rows
pub mod Kept
pub mod RowLaws
pub mod Walked
pub mod Nodes
pub mod ArgumentLaws
