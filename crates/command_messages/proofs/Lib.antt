mod KeptLemmas
mod LostLemmas
