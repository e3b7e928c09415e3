pub mod SharedLists
pub mod Walks
pub mod Heaps
pub mod Numbers
pub mod RowLemmas
pub mod Links
pub mod Noting
mod Worklists
mod Waits
pub mod RowListLemmas
