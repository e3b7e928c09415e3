pub mod NameRows
pub mod Judged
pub mod StatementRows
pub mod SameSight
pub mod ReturnLemmas
