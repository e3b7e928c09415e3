use Rattle.play_meaning.proofs.PlaysRun.{code_plays_end}
use Rattle.play_meaning.proofs.laws.code_plays_end.Goals as goal

pub returns : goal.returns
returns c = record { end = code_plays_end c.listed_scripts_do.ensures.run c.entries_do.ensures.run c.entries_stay_alike.ensures.alike }
