mod BackLemmas
mod SoundLemmas
mod UnchangedLaws
mod ReadBackLaws
mod OneValueLaws
