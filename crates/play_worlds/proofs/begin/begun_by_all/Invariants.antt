use Rattle.std.proofs.Common.{◌≡◌, map, take}
use Rattle.world_core.specs.Calls.{planned}
use Rattle.play_worlds.specs.Worlds.{begun_by}
use Rattle.play_worlds.proofs.begin.begun_by_all.Given as goal

abbrev pub invariant-loop-line : goal.invariant-loop-line
invariant-loop-line l = map planned l.events ≡ map (begun_by l.area) (take l.line-index l.lines)
