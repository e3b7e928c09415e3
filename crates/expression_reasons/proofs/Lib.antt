pub mod CallLemmas
pub mod ArgumentRows
