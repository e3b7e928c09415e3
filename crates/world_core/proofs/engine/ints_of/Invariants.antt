use Rattle.std.proofs.Common.{◌≡◌, take}
use Rattle.world_rules.specs.Arguments.{ints_of}
use Rattle.world_core.proofs.engine.ints_of.Given as goal

abbrev pub invariant-loop-value : goal.invariant-loop-value
invariant-loop-value l = l.ints ≡ ints_of (take l.value-index l.args)
