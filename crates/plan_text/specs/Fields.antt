-- The fields of a line: what stands between its spaces.
use Rattle.std.specs.Prelude.{ℕ, Bool, ◌&&◌, not, ◌==◌, nat_lt, nat_le, if◌then◌else◌, List, ◌∷◌, ◌++◌, length, Option, Some, None}
use Rattle.std.specs.List.{list_all}
use Rattle.nwq_text.specs.Number.{number_of}

-- a field, the space behind it and what follows
abbrev pub parted : List ℕ → List ℕ → List ℕ
parted field rest = field ++ 32 ∷ rest

-- the greatest place of an object among those of its tag, and the greatest random number
abbrev pub greatest_nth : ℕ
greatest_nth = 2147483647

abbrev pub greatest_random : ℕ
greatest_random = 4294967295

abbrev pub within : ℕ → ℕ → Option ℕ → Option ℕ
within low high None = None
within low high (Some n) = if nat_le low n && nat_le n high then Some n else None

-- the number that the digits write, where it is between the two
abbrev pub number_between : ℕ → ℕ → List ℕ → Option ℕ
number_between low high digits = within low high (number_of digits)

abbrev pub is_spaceless : ℕ → Bool
is_spaceless b = not (b == 32)

-- 1 to 16 bytes without a space
unfoldable pub is_label : List ℕ → Bool
is_label label = nat_lt 0 (length label) && nat_le (length label) 16 && list_all is_spaceless label
