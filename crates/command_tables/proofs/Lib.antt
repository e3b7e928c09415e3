mod NameLemmas
mod ListLemmas
mod TableLemmas
mod ReadLemmas
mod CountLemmas
mod OneSet
mod Steps
