pub mod Nodes
pub mod Numbers
pub mod Marks
pub mod Seeking
pub mod Laws
pub mod Functions
pub mod Sources
