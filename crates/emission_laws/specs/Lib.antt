pub mod Spots
pub mod Table
pub mod WellTyped
pub mod Laws
