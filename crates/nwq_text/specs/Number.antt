use Rattle.std.specs.Prelude.{ℕ, Bool, ◌&&◌, List, length, nat_lt, nat_le, Option, Some, None, if◌then◌else◌}
use Rattle.std.specs.Str.{all_ascii_digits}
use Rattle.std.specs.Str.Parse.{digits_value}

-- one to ten decimal digits and nothing else; zeros may lead
abbrev pub is_number : List ℕ → Bool
is_number digits = nat_lt 0 (length digits) && nat_le (length digits) 10 && all_ascii_digits digits

-- the number that the digits write, where they are a number
unfoldable pub number_of : List ℕ → Option ℕ
number_of digits = if is_number digits then Some (digits_value 10 digits) else None
