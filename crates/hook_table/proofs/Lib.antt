mod NumberLemmas
mod AnswerLemmas
mod ServeLemmas
mod PlaceLemmas
