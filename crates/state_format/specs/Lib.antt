pub mod Parts
pub mod Fields
pub mod Place
pub mod Reading
pub mod WritingLemmas
