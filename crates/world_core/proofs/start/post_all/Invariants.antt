use Rattle.std.proofs.Common.{◌≡◌, drop, map}
use Rattle.std.specs.List.{fold}
use Rattle.world_rules.specs.Turns.{with_planned}
use Rattle.world_core.specs.Calls.{planned}
use Rattle.world_core.proofs.start.post_all.Given as goal

abbrev pub invariant-loop-start : goal.invariant-loop-start
invariant-loop-start g l =
    (fold with_planned l.parts.world (map planned (drop l.start-index l.starts)) ≡ fold with_planned l.fn.parts.world (map planned l.starts))
    × (l.parts.world.agenda.next ≡ l.start-index)
