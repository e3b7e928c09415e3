mod SourceLemmas
mod PlanLemmas
mod AreaLemmas
mod ZeroLaws
mod DigitLemmas
mod ReadLemmas
