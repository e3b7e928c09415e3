-- One step of the definitions that tell where a name leads.
use Rattle.std.proofs.Common.{◌≡◌, ℕ, zero, suc, ◌-◌, ◌<◌, List, refl, arith}
use Rattle.std.specs.FinMap as names
use Rattle.nwq_outside.specs.Outside.{Held}
use Rattle.real_files.specs.Disk.{follow, next_of}

pub follow_step : (n : ℕ) (links : Held) (name : List ℕ) → 0 < n
    → follow n links name ≡ next_of (names.get links name) name (follow (n - 1) links)
unfolding follow
follow_step zero links name some = absurd (omega arith)
follow_step (suc n) links name some = let back : suc n - 1 ≡ n = omega arith in rw back refl

pub follow_none : (links : Held) (name : List ℕ) → follow 0 links name ≡ name
unfolding follow
follow_none links name = refl

pub ruleset follows = (follow_step, follow_none)
