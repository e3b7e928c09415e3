use Rattle.command_save.proofs.ComposeLemmas.{saves_compose}
use Rattle.command_save.proofs.laws.saves_compose.Goals as goal

pub returns : goal.returns
returns c = record {
  compose = saves_compose (record { headers = c.one_header.ensures.one; spellings = c.spelling_laws.ensures.spelling; trees = c.one_tree.ensures.one; states = c.one_state.ensures.one });
}
