pub mod Tables
pub mod Rules
pub mod Fits
pub mod Safe
pub mod Laws
