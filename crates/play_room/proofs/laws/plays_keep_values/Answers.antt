use Rattle.play_room.proofs.Playing.{play_kept}
use Rattle.play_room.proofs.Calls.{calls_keep}
use Rattle.play_room.proofs.Turns.{no_script_keeps, too_deep_keeps, begin_keeps, turn_keeps, turn_done_keeps, fault_keeps, unapply_keeps, drained_keeps}
use Rattle.play_room.proofs.Keeps.{WorldKeepsValues}
use Rattle.play_room.proofs.laws.plays_keep_values.Goals as goal

world_laws : WorldKeepsValues
world_laws = record {
  calls = calls_keep;
  no_script = no_script_keeps;
  too_deep = too_deep_keeps;
  begin = begin_keeps;
  turn = turn_keeps;
  turn_done = turn_done_keeps;
  fault = fault_keeps;
  unapply = unapply_keeps;
  drained = drained_keeps;
}

pub returns : goal.returns
returns c = record {
  kept = λ cell table scripts limit entries until stop taken done w bytes is codes few k.
      play_kept world_laws cell table bytes is scripts codes few limit entries until stop taken done w k;
}
