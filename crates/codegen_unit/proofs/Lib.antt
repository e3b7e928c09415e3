pub mod Bounded
pub mod Known
pub mod Names
pub mod Arms
pub mod InRow
pub mod Choosing
pub mod Listed
pub mod Returns
