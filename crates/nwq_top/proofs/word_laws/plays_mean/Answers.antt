use Rattle.nwq_top.proofs.Playing.{plays_mean}
use Rattle.nwq_top.proofs.word_laws.plays_mean.Goals as goal

pub returns : goal.returns
returns c = record {
  means = plays_mean c.code_is_bytes.ensures.bytes c.units_pass.ensures.pass c.scripts_play_units.ensures.units c.one_least_fault.ensures.kept c.headers_have_tables.ensures.read
      c.headers_have_tables.ensures.built_in
      c.one_area.ensures.plans c.one_source.ensures.tables c.one_check.ensures.loaded c.one_listing.ensures.listed c.one_area.ensures.areas c.one_game.ensures.command
      c.plans_play_as_meant.ensures.few c.plans_play_as_meant.ensures.unstopped c.plans_play_as_meant.ensures.stopped
      c.checked_plays_have_no_fault.ensures.no_fault;
}
