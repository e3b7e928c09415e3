mod Played
mod Examples
mod Edges
mod Queues
mod KeptLemmas
mod RowsKept
mod TurnsKept
mod Settled
mod PlayLemmas
mod PlayExamples
pub mod StandingLemmas
