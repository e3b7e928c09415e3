pub mod Sets
pub mod Standard
pub mod Served
pub mod InHooks
