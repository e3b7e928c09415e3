pub mod NodeLemmas
pub mod FieldLaws
