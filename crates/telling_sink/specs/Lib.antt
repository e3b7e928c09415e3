pub mod Noting
pub mod Told
pub mod ToldLemmas
