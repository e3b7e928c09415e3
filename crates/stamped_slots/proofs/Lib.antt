pub mod SlotLemmas
pub mod IndexLemmas
