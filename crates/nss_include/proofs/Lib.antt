mod StepLemmas
mod UnitLemmas
mod PieceLemmas
mod ProgressLemmas
mod ReadLemmas
mod OneUnit
