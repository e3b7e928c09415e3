mod HeaderLemmas
mod OneTable
mod OneUnit
mod PlaceLemmas
mod UnitLemmas
mod Rows
mod Steps
