-- How many remarks of a play are kept.
use Rattle.std.specs.Prelude.{ℕ}

-- the first sixteen, and one more, by which it is known that there are others
abbrev pub most_remarks : ℕ
most_remarks = 17
