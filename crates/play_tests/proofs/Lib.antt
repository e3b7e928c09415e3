pub mod TurnCounts
