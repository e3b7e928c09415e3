use Rattle.nwq_top.proofs.Running.{compiles_mean}
use Rattle.nwq_top.proofs.word_laws.compiles_mean.Goals as goal

pub returns : goal.returns
returns c = record {
  means = compiles_mean c.units_pass.ensures.pass c.scripts_play_units.ensures.units c.one_least_fault.ensures.kept c.headers_have_tables.ensures.read c.headers_have_tables.ensures.built_in
      c.one_source.ensures.tables c.one_script.ensures.compiled c.one_check.ensures.loaded;
}
