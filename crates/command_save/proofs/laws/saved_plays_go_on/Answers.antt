use Rattle.command_save.proofs.SavedLemmas.{saved_plays}
use Rattle.command_save.proofs.laws.saved_plays_go_on.Goals as goal

pub returns : goal.returns
returns c = record {
  goes_on =
      saved_plays (record { headers = c.one_header.ensures.one; spellings = c.spelling_laws.ensures.spelling; trees = c.one_tree.ensures.one; states = c.one_state.ensures.one })
      c.one_source.ensures.tables c.one_listing.ensures.listed c.one_area.ensures.areas c.one_area.ensures.plans;
}
