use Rattle.command_save.proofs.SafeLemmas.{states_go_safely}
use Rattle.command_save.proofs.laws.states_go_safely.Goals as goal

pub returns : goal.returns
returns c = record {
  safe = states_go_safely
      (record {
        headers = c.one_header.ensures.one;
        spellings = c.spelling_laws.ensures.spelling;
        trees = c.one_tree.ensures.one;
        states = c.one_state.ensures.one;
      });
}
