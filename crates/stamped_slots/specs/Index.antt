-- Stamps under keys.
use Rattle.std.specs.Prelude.{◌≡◌, ℕ, ◌≤◌, ◌<◌, ◌==◌, ◌&&◌, List, Bool, true, false, Option, None, Some, if◌then◌else◌}
use Rattle.std.specs.List.{list_any}

-- is the pair this key with this stamp?
abbrev pub is_pair : ℕ → ℕ → ℕ × ℕ → Bool
is_pair key stamp e = (key == e.0) && (stamp == e.1)

-- is the stamp under the key?
abbrev pub is_under : ℕ → ℕ → List (ℕ × ℕ) → Bool
is_under key stamp pairs = list_any (is_pair key stamp) pairs

-- the new index has the stamp under the key, or hasn't, and is else as the old one
abbrev pub Marks : ℕ → ℕ → Bool → List (ℕ × ℕ) → List (ℕ × ℕ) → Type 0
Marks key stamp there old new = (k s : ℕ)
    → is_under k s new ≡ (if is_pair key stamp (k, s) then there else is_under k s old)

-- the least stamp under a key, of those from a stamp on
abbrev pub IsLeast : ℕ → ℕ → Option ℕ → List (ℕ × ℕ) → Type 0
IsLeast key from None pairs = (s : ℕ) → from ≤ s → is_under key s pairs ≡ false
IsLeast key from (Some stamp) pairs =
    (from ≤ stamp) × (is_under key stamp pairs ≡ true)
    × ((s : ℕ) → from ≤ s → s < stamp → is_under key s pairs ≡ false)
