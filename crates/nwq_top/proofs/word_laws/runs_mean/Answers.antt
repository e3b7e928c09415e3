use Rattle.nwq_top.proofs.Running.{runs_mean}
use Rattle.nwq_top.proofs.word_laws.runs_mean.Goals as goal

pub returns : goal.returns
returns c = record {
  means = runs_mean c.units_pass.ensures.pass c.scripts_play_units.ensures.units c.one_least_fault.ensures.kept c.headers_have_tables.ensures.read c.headers_have_tables.ensures.built_in
      c.one_source.ensures.tables c.one_script.ensures.compiled c.one_check.ensures.loaded c.one_code.ensures.plays c.runs_end_as_meant.ensures.few
      c.runs_end_as_meant.ensures.unstopped c.runs_end_as_meant.ensures.stopped c.starts_play_once.ensures.once c.starts_play_once.ensures.nothing_waits
      c.checked_plays_have_no_fault.ensures.no_fault;
}
