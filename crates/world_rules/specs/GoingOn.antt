-- What holds of every play that is broken off and goes on.
use Rattle.std.specs.Prelude.{◌≡◌, ℕ, ◌+◌}
use Rattle.world_rules.specs.Plays.{Runner, Bounds, Progress, PlayEnd, Paused, Played, plays}

-- what was broken off goes on for so many further entries
abbrev pub continued : {X : Type 0} → Runner X → Bounds → ℕ → PlayEnd → Played X → Played X
continued runner bounds more Paused p = plays runner bounds more p.last
continued runner bounds more _ p = p

-- A play that is broken off after some entries and then goes on is the unbroken play.
abbrev pub PlaysGoOn : Type 0 → Type 0
PlaysGoOn X = (runner : Runner X) (bounds : Bounds) (first more : ℕ) (p : Progress X)
    → plays runner bounds (first + more) p
    ≡ continued runner bounds more (plays runner bounds first p).ending
    (plays runner bounds first p)
