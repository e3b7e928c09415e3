use Rattle.world_rules.specs.StayAlike.{new_is_alike, begin_keeps_alike, turn_keeps_alike, turn_done_keeps_alike, unapply_keeps_alike, fault_keeps_alike, no_script_keeps_alike, drained_keeps_alike}
use Rattle.world_rules.specs.StayAlike.{trace_alike}
use Rattle.source_laws.specs.Carries.{Carries}
use Rattle.source_laws.proofs.laws.entries_stay_alike.Goals as goal

pub returns : goal.returns
returns c = record {
  alike = λ s. record {
    new = new_is_alike (Carries s);
    begins = begin_keeps_alike (Carries s);
    turns = turn_keeps_alike (Carries s);
    turns_done = turn_done_keeps_alike (Carries s);
    unapplies = unapply_keeps_alike (Carries s);
    faults = fault_keeps_alike (Carries s);
    unlisted = no_script_keeps_alike (Carries s);
    drains = drained_keeps_alike (Carries s);
    traces = trace_alike (Carries s);
  };
}
