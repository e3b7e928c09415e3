pub mod Short
pub mod Sharing
pub mod Queues
