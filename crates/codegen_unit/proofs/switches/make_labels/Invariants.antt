use Rattle.std.proofs.Common.{◌≡◌, ◌+◌, ◌<◌, ◌≤◌, ℕ}
use Rattle.ncs_emit.specs.Labelled.{placements}
use Rattle.codegen_unit.proofs.switches.make_labels.Given as goal

abbrev pub invariant-loop-more : goal.invariant-loop-more
invariant-loop-more l =
    (l.out ≡ record l.fn.out { labels = l.fn.out.labels + l._more })
    × ((label : ℕ) → l.fn.out.labels ≤ label → label < l.fn.out.labels + l._more → placements l.fn.out.lines label ≡ 0)
