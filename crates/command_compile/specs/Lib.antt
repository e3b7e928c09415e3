pub mod Typings
pub mod Files
pub mod Made
pub mod Laws
