use Rattle.std.proofs.Common.{◌≡◌, take}
use Rattle.world_core.proofs.engine.copies.Given as goal

-- the arguments so far
abbrev pub invariant-loop-value : goal.invariant-loop-value
invariant-loop-value l = l.copies.items ≡ take l.value-index l.args
