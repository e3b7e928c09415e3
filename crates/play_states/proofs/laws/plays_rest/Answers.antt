use Rattle.play_states.proofs.Resting.{plays_rest, plays_come_to_states}
use Rattle.play_states.proofs.laws.plays_rest.Goals as goal

pub returns-clause-rest : goal.returns-clause-rest
returns-clause-rest c =
    plays_rest c.plays_settle.ensures.plays c.runs_lead.ensures.lead c.variables_tell.ensures.put c.variables_tell.ensures.filter c.runs_are_sound.ensures.scripts
    c.runs_are_sound.ensures.states c.calls_keep_fits.ensures.engine c.calls_keep_fits.ensures.lines c.entries_keep_fits.ensures.begin c.entries_keep_fits.ensures.turn
    c.entries_keep_fits.ensures.turn_done c.entries_keep_fits.ensures.unapply c.tables_type_execute_script.ensures.typed c.answers_have_types.ensures.typed

pub returns-clause-states : goal.returns-clause-states
returns-clause-states c =
    plays_come_to_states c.plays_settle.ensures.plays c.runs_lead.ensures.lead c.variables_tell.ensures.put c.variables_tell.ensures.filter c.runs_are_sound.ensures.scripts
    c.runs_are_sound.ensures.states c.calls_keep_fits.ensures.engine c.calls_keep_fits.ensures.lines c.entries_keep_fits.ensures.begin c.entries_keep_fits.ensures.turn
    c.entries_keep_fits.ensures.turn_done c.entries_keep_fits.ensures.unapply c.tables_type_execute_script.ensures.typed c.answers_have_types.ensures.typed
    c.plays_keep_values.ensures.kept c.kept_worlds_have_room.ensures.room c.plays_have_states.ensures.states
