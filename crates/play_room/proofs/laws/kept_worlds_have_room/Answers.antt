use Rattle.play_room.proofs.Rooms.{kept_has_room}
use Rattle.play_room.proofs.laws.kept_worlds_have_room.Goals as goal

pub returns : goal.returns
returns c = record { room = kept_has_room }
