mod WellTyped
mod Passing
