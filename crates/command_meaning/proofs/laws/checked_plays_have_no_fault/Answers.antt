use Rattle.command_meaning.specs.CodeEnds.{CheckedPlaysGoOn}
use Rattle.command_meaning.proofs.CodeEnds.{checked_plays_go_on, checked_plays_have_no_fault}
use Rattle.command_meaning.proofs.laws.checked_plays_have_no_fault.Goals as goal

pub returns : goal.returns
returns c =
    let go_on : CheckedPlaysGoOn =
    checked_plays_go_on c.runs_are_sound.ensures.scripts c.runs_are_sound.ensures.states c.calls_keep_fits.ensures.engine c.calls_keep_fits.ensures.lines
    c.entries_keep_fits.ensures.begin c.entries_keep_fits.ensures.turn c.entries_keep_fits.ensures.turn_done c.entries_keep_fits.ensures.unapply
    c.tables_type_execute_script.ensures.typed c.answers_have_types.ensures.typed in
    record { goes_on = go_on; no_fault = checked_plays_have_no_fault go_on }
