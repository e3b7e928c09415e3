pub mod Plain
pub mod Spelling
pub mod Reading
pub mod File
pub mod Names
pub mod Laws
