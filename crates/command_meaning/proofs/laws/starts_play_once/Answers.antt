use Rattle.command_meaning.proofs.Once.{starts_play_once, starts_play_once_where_nothing_waits}
use Rattle.command_meaning.proofs.laws.starts_play_once.Goals as goal

pub returns : goal.returns
returns c = record { once = starts_play_once; nothing_waits = starts_play_once_where_nothing_waits }
