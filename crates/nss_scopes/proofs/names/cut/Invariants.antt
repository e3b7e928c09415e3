use Rattle.std.proofs.Common.{◌≡◌, length, take}
use Rattle.nss_scopes.specs.Slots.{HasLast}
use Rattle.nss_scopes.proofs.names.cut.Given as goal

abbrev pub invariant-loop-slots : goal.invariant-loop-slots
invariant-loop-slots l = HasLast l.slots.items l.last × (take l.len l.slots.items ≡ take l.len l.initial.slots.items)

abbrev pub decreases-loop-slots : goal.decreases-loop-slots
decreases-loop-slots l = length l.slots.items
