mod Calls
mod Keeping
mod Counting
mod Resting
mod Beginning
