mod EndLemmas
mod ReadLemmas
