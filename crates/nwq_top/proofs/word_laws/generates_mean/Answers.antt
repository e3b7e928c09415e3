use Rattle.nwq_top.proofs.Generating.{generates_mean}
use Rattle.nwq_top.proofs.word_laws.generates_mean.Goals as goal

pub returns : goal.returns
returns c = record {
  means = generates_mean c.units_pass.ensures.pass c.scripts_play_units.ensures.units c.one_least_fault.ensures.kept c.headers_have_tables.ensures.built_in c.one_check.ensures.loaded
      c.ends_are_answered.ensures.answered c.plans_play_as_meant.ensures.few c.plans_play_as_meant.ensures.unstopped c.plans_play_as_meant.ensures.stopped
      c.checked_plays_have_no_fault.ensures.no_fault;
}
