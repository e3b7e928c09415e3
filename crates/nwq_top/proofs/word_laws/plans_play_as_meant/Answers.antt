use Rattle.nwq_top.proofs.SourcePlans.{few_steps_play_as_meant, unstopped_plans_play_as_meant, stopped_plans_begin_as_meant}
use Rattle.nwq_top.proofs.word_laws.plans_play_as_meant.Goals as goal

pub returns : goal.returns
returns c =
    let texts = c.listed_units_play_alike.ensures.texts in
    let keep = c.entries_stay_alike.ensures.alike in
    record {
      few = few_steps_play_as_meant texts keep c.listed_units_play_alike.ensures.end;
      unstopped = unstopped_plans_play_as_meant texts keep c.listed_units_play_alike.ensures.stop;
      stopped = stopped_plans_begin_as_meant texts keep c.listed_units_play_alike.ensures.stop;
    }
