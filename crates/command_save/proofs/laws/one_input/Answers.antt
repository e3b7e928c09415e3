use Rattle.command_save.proofs.OneSave.{sure_header, sure_area, sure_state}
use Rattle.command_save.proofs.OneState.{one_going}
use Rattle.command_save.proofs.laws.one_input.Goals as goal

pub returns : goal.returns
returns c = record {
  headers = sure_header c.one_source.ensures.tables;
  areas = sure_area c.one_area.ensures.areas;
  going = one_going (record { headers = c.one_header.ensures.one; spellings = c.spelling_laws.ensures.spelling; trees = c.one_tree.ensures.one; states = c.one_state.ensures.one });
  states = sure_state (record { headers = c.one_header.ensures.one; spellings = c.spelling_laws.ensures.spelling; trees = c.one_tree.ensures.one; states = c.one_state.ensures.one });
}
