-- The lemmas by which parts of a work compose, under one name.
use Rattle.command_work.specs.Parts.{then_ok, then_err, cut_here, makes_does}
use Rattle.command_work.specs.Comes.{gives_does}

pub ruleset steps = (then_ok, then_err)

-- the same, where what a part gives is put beside something
pub ruleset gives = (then_ok, then_err, gives_does)

-- the built-in header has to be made
pub ruleset built = (cut_here, makes_does)
