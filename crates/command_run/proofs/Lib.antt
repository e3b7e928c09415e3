mod OneRun
mod RunLemmas
mod StopLemmas
mod PlayLemmas
mod TellLemmas
mod WorldLemmas
