mod LineLemmas
mod ListLemmas
mod OneCode
mod TellLemmas
mod WorldLemmas
