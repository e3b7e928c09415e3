pub mod Places
pub mod ListLemmas
