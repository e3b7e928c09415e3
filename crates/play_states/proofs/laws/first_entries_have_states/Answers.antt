use Rattle.play_states.proofs.Beginning.{first_entries_have_states}
use Rattle.play_states.proofs.laws.first_entries_have_states.Goals as goal

pub returns : goal.returns
returns c = record {
  states = first_entries_have_states c.objects_tell.ensures.objects c.plan_worlds_are_fresh.ensures.fresh c.plan_worlds_are_kept.ensures.kept c.plays_rest.ensures.states c.counts_are_few.ensures.few;
}
