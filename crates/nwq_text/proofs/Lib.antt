mod Appended
mod CutLemmas
mod EscapeLemmas
mod Examples
mod LineLemmas
mod NumberLemmas
mod TakenBack
