-- The player's machine is the machine of a setting.
use Rattle.std.proofs.Common.{refl, ap, sym}
use Rattle.world_rules.specs.Engine.{engine}
use Rattle.world_rules.specs.AlikeLaws.{call}
use Rattle.ncs_machine.specs.Host.{host}
use Rattle.play_meaning.specs.Machines.{PlayersAreHosts}

pub players_are_hosts : PlayersAreHosts
unfolding host
players_are_hosts s scripts hooks same cells = record {
  scripts = same;
  table = refl;
  engine = record {
    value = λ n caller values a w. ap (λ t. (engine s.table t n (call caller values a) w).value) (sym cells);
    world = λ n caller values a w. ap (λ t. (engine s.table t n (call caller values a) w).world) (sym cells);
  };
  tests = λ caller target w. refl;
  unlisted = λ target name w. refl;
  deep = λ target name w. refl;
}
