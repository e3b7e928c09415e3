use Rattle.command_meaning.proofs.Compiling.{scripts_have_units, scripts_play_units}
use Rattle.command_meaning.proofs.laws.scripts_play_units.Goals as goal

pub returns : goal.returns
returns c =
    let units = scripts_have_units c.values_are_bytes.ensures.bytes in
    record { units = units; plays = scripts_play_units units }
