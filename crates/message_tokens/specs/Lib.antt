pub mod Following
pub mod Behind
pub mod Kinds
pub mod Tries
