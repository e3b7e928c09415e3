mod ReadLemmas
mod AreaLemmas
mod ScriptLemmas
mod CountLemmas
