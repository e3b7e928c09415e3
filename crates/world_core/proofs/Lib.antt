pub mod TakenBack
pub mod TraceLemmas
pub mod EngineLemmas
pub mod StartLemmas
pub mod WorldLemmas
pub mod AnswerLemmas
