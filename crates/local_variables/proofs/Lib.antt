pub mod VariableLaws
pub mod KeptLemmas
