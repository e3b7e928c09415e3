use Rattle.std.proofs.Common.{◌≡◌, replicate, None}
use Rattle.ncs_emit.proofs.finishing.no_places.Given as goal

abbrev pub invariant-loop-label : goal.invariant-loop-label
invariant-loop-label l = l.places.items ≡ replicate l._label None
