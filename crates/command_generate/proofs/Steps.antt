-- The lemmas by which parts of a work compose, under one name.
use Rattle.command_work.specs.Parts.{then_ok, then_err}

pub ruleset steps = (then_ok, then_err)
