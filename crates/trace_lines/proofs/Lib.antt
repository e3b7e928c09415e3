mod Texts
mod Names
mod Headers
mod Calls
mod Runs
mod Plays
