use Rattle.command_meaning.proofs.Running.{few_steps_end_as_meant, unstopped_runs_end_as_meant, stopped_runs_begin_as_meant}
use Rattle.command_meaning.proofs.laws.runs_end_as_meant.Goals as goal

pub returns : goal.returns
returns c =
    let plays = c.files_play_their_code.ensures.plays in
    let texts = c.listed_units_play_alike.ensures.texts in
    let keep = c.entries_stay_alike.ensures.alike in
    record {
      few = few_steps_end_as_meant plays texts keep c.listed_units_play_alike.ensures.end;
      unstopped = unstopped_runs_end_as_meant plays texts keep c.listed_units_play_alike.ensures.stop;
      stopped = stopped_runs_begin_as_meant plays texts keep c.listed_units_play_alike.ensures.stop;
    }
