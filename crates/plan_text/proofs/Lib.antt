mod WordLemmas
mod LineLemmas
mod PlannedLemmas
mod AddsLemmas
mod OnePlan
mod Keeping
