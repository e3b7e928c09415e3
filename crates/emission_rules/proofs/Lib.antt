mod Examples
mod Labels
mod Whole
mod Positions
