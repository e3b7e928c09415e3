pub mod Readers
pub mod FieldReaders
pub mod PartReaders
pub mod StateLaws
pub mod Members
pub mod Writing
mod Example
