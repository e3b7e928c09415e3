pub mod Rows
pub mod Held
pub mod Walk
pub mod Charge
pub mod Stands
pub mod Used
pub mod Laws
