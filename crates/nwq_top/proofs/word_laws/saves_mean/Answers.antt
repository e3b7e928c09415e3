use Rattle.nwq_top.proofs.Saving.{saves_mean}
use Rattle.nwq_top.proofs.word_laws.saves_mean.Goals as goal

pub returns : goal.returns
returns c = record {
  means = saves_mean c.code_is_bytes.ensures.bytes c.units_pass.ensures.pass c.scripts_play_units.ensures.units c.one_least_fault.ensures.kept c.headers_have_tables.ensures.read
      c.headers_have_tables.ensures.built_in
      c.one_area.ensures.plans c.one_check.ensures.loaded c.one_listing.ensures.listed c.one_input.ensures.headers c.one_input.ensures.areas c.one_save.ensures.saves
      c.listed_units_play_alike.ensures.end c.listed_units_play_alike.ensures.stop c.entries_stay_alike.ensures.alike
      c.checked_plays_have_no_fault.ensures.no_fault c.fronts_go_on.ensures.fronts;
}
