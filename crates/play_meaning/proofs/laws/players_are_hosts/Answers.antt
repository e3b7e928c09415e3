use Rattle.play_meaning.proofs.Machines.{players_are_hosts}
use Rattle.play_meaning.proofs.laws.players_are_hosts.Goals as goal

pub returns : goal.returns
returns c = record { hosts = players_are_hosts }
