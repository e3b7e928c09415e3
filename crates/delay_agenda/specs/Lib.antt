pub mod Order
pub mod Waiting
pub mod Queues
pub mod Laws
