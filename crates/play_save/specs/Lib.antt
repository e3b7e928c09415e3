pub mod Rules
pub mod States
pub mod Breaking
pub mod Keeping
pub mod Written
pub mod Scripts
pub mod Telling
pub mod TableLemmas
