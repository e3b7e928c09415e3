pub mod PlaceLemmas
pub mod NameLemmas
pub mod EntryLemmas
pub mod CaseLemmas
pub mod ScopeLemmas
