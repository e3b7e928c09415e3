use Rattle.nwq_top.proofs.ListedUnits.{plans_list_units}
use Rattle.nwq_top.proofs.word_laws.plans_list_units.Goals as goal

pub returns : goal.returns
returns c = record {
  listed = plans_list_units c.code_is_bytes.ensures.bytes c.units_pass.ensures.pass c.scripts_play_units.ensures.units c.one_check.ensures.loaded c.one_least_fault.ensures.kept;
}
