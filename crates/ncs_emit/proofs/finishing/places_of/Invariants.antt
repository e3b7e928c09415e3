use Rattle.ncs_emit.proofs.Placing.{PlacedSoFar}
use Rattle.ncs_emit.proofs.finishing.places_of.Given as goal

abbrev pub invariant-loop-line : goal.invariant-loop-line
invariant-loop-line l = PlacedSoFar l.kept l.line-index l.labels l.places.items l.at
