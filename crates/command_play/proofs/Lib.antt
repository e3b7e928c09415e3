mod FileLemmas
mod OneGame
mod PlayLemmas
mod StopLemmas
mod TellLemmas
mod Examples
