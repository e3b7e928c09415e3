use Rattle.std.proofs.Common.{◌<◌, length, take}
use Rattle.state_objects.specs.Places.{CountsPlaces}
use Rattle.state_objects.proofs.places.count_all.Given as goal

abbrev pub invariant-loop-part : goal.invariant-loop-part
invariant-loop-part l = CountsPlaces l.counts (take l.part-index l.parts) × (0 < length l.counts)
