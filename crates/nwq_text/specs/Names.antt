-- The names of scripts, and of tables.
use Rattle.std.specs.Prelude.{ℕ, Bool, ◌&&◌, ◌||◌, ◌==◌, nat_lt, nat_le, List, length}
use Rattle.std.specs.List.{list_all}

-- a to z, 0 to 9 and `_`
abbrev pub is_script_byte : ℕ → Bool
is_script_byte b = nat_le 97 b && nat_le b 122 || nat_le 48 b && nat_le b 57 || b == 95

-- 1 to 16 bytes of these
unfoldable pub is_script_name : List ℕ → Bool
is_script_name name = nat_lt 0 (length name) && nat_le (length name) 16
    && list_all is_script_byte name
