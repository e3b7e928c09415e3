-- How much is kept.
use Rattle.std.specs.Prelude.{ℕ, ◌^◌, ◌-◌}

-- so many rows at most, and so many nodes of lists of slots
abbrev pub most : ℕ
most = 2 ^ 25

-- so many nodes of lists of another kind at most: 0 is the empty list's number, and the others have
-- 32 bits
abbrev pub most_numbers : ℕ
most_numbers = 2 ^ 32 - 1
