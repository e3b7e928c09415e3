-- Where a place of a text stands in its line.
use Rattle.std.specs.Prelude.{◌≡◌, ◌≢◌, ℕ, Bool, ◌&&◌, not, ◌+◌, ◌-◌, ◌<◌, ◌≤◌, ◌⊎◌, nat_lt, nat_le, List, length, slice_index, slice_range, count_by}
use Rattle.std.specs.Str.{IsUtf8}

-- the line of a place begins there: at the text's beginning or behind a newline, and no newline
-- stands between
pub record IsLineStart (bytes : List ℕ) (at start : ℕ) : Type 0 where
  pub within : start ≤ at
  pub begins : (start ≡ 0) ⊎ (slice_index bytes (start - 1) ≡ 10)
  pub free : (k : ℕ) → start ≤ k → k < at → slice_index bytes k ≢ 10

-- the line of a place ends there: at a newline or at the text's end, and no newline stands between
pub record IsLineEnd (bytes : List ℕ) (at end : ℕ) : Type 0 where
  pub behind : at ≤ end
  pub within : end ≤ length bytes
  pub ends : (end ≡ length bytes) ⊎ (slice_index bytes end ≡ 10)
  pub free : (k : ℕ) → at ≤ k → k < end → slice_index bytes k ≢ 10

-- a byte of a text that begins no character of it
abbrev pub is_inner : ℕ → Bool
is_inner b = nat_le 128 b && nat_lt b 192

-- so many characters: those of the bytes as UTF-8, and one for each byte where they aren't that
pub record HasCharacters (bytes : List ℕ) (count : ℕ) : Type 0 where
  pub text : IsUtf8 bytes → count ≡ count_by (λ b. not (is_inner b)) bytes
  pub other : (IsUtf8 bytes → ⊥) → count ≡ length bytes

-- the column of a place: one more than the characters that stand before it in its line
pub record HasColumn (bytes : List ℕ) (at column : ℕ) : Type 0 where
  pub start : ℕ
  pub line : IsLineStart bytes at start
  pub before : ℕ
  pub characters : HasCharacters (slice_range bytes start at) before
  pub counted : column ≡ before + 1
