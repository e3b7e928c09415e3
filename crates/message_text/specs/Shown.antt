-- How a line and the place in it are shown.
use Rattle.std.specs.Prelude.{◌≡◌, ◌≢◌, ℕ, Bool, true, false, ◌&&◌, ◌||◌, not, ◌+◌, ◌-◌, ◌≤◌, ◌<◌, ◌↔◌, ◌==◌, IsTrue, nat_le, nat_lt}
use Rattle.std.specs.Prelude.{List, [], ◌∷◌, ◌++◌, length, drop, codes, slice_index, slice_range, if◌then◌else◌}
use Rattle.std.specs.List.{flat_map}
use Rattle.std.specs.Str.{IsUtf8}
use Rattle.nwq_text.specs.Escape.{escaped}
use Rattle.message_text.specs.declared.window.Window.{Window}
use Rattle.message_text.specs.Place.{is_inner, IsLineStart, IsLineEnd}

-- Here begins a character that a terminal doesn't show but obeys: one of the control characters
-- from U+0080 on, or a mark of direction or of a new line or paragraph.
abbrev pub is_latin_control : ℕ → ℕ → Bool
is_latin_control a b = a == 194 && nat_le 128 b && nat_lt b 160

abbrev pub is_arabic_mark : ℕ → ℕ → Bool
is_arabic_mark a b = a == 216 && b == 156

abbrev pub is_general_mark : ℕ → ℕ → ℕ → Bool
is_general_mark a b c =
    a == 226 && ((b == 128 && ((nat_le 142 c && nat_lt c 144) || (nat_le 168 c && nat_lt c 175)))
    || (b == 129 && nat_le 166 c && nat_lt c 170))

-- so do these bytes
abbrev pub begins_hidden : List ℕ → Bool
begins_hidden [] = false
begins_hidden (a ∷ []) = false
begins_hidden (a ∷ b ∷ []) = is_latin_control a b || is_arabic_mark a b
begins_hidden (a ∷ b ∷ c ∷ rest) = is_latin_control a b || is_arabic_mark a b
    || is_general_mark a b c

-- no such character stands in the bytes
abbrev pub HidesNone : List ℕ → Type 0
HidesNone bytes = (k : ℕ) → k < length bytes → begins_hidden (drop k bytes) ≡ false

-- the bytes are UTF-8, and no such character stands in them
pub record IsReadable (bytes : List ℕ) : Type 0 where
  pub utf8 : IsUtf8 bytes
  pub shown : HidesNone bytes

-- a byte that is shown as it is, in a line that is readable or isn't: a tab, printable ASCII, or a
-- byte of another character
abbrev pub is_shown_plain : Bool → ℕ → Bool
is_shown_plain text b = if nat_lt b 128 then
    (if b == 9 then true else nat_le 32 b && nat_lt b 127) else text

-- how a byte of a line is shown
unfoldable pub shown_byte : Bool → ℕ → List ℕ
shown_byte text b = if is_shown_plain text b then b ∷ [] else escaped (b ∷ [])

-- what stands under a byte that is shown as it is: a tab, nothing under a byte that begins no
-- character, or a blank
abbrev pub plain_blank : ℕ → List ℕ
plain_blank b = if b == 9 then 9 ∷ [] else if is_inner b then [] else 32 ∷ []

-- what stands under each byte, as wide as it
unfoldable pub blank_byte : Bool → ℕ → List ℕ
blank_byte text b = if is_shown_plain text b then plain_blank b else codes "    "

-- three points where something of the line isn't shown, and what stands under them
abbrev pub points : Bool → List ℕ
points cut = if cut then codes "..." else []

abbrev pub points_blank : Bool → List ℕ
points_blank cut = if cut then codes "   " else []

-- where a line ends for a reader: before the carriage return in front of its newline, unless that
-- stands before the place
pub record IsShownEnd (bytes : List ℕ) (at end : ℕ) : Type 0 where
  pub line_end : ℕ
  pub ends : IsLineEnd bytes at line_end
  pub cut : at < line_end → slice_index bytes (line_end - 1) ≡ 13 → end + 1 ≡ line_end
  pub whole : (at < line_end → slice_index bytes (line_end - 1) ≢ 13) → end ≡ line_end

-- the first place from one on, and up to a limit, at which a character begins; past three bytes
-- that begin none, the fourth
pub record IsPast (bytes : List ℕ) (from limit at : ℕ) : Type 0 where
  pub behind : from ≤ at
  pub within : at ≤ limit
  pub near : at ≤ from + 3
  pub inner : (k : ℕ) → from ≤ k → k < at → IsTrue (is_inner (slice_index bytes k))
  pub stops : at < limit → at < from + 3 → IsTrue (not (is_inner (slice_index bytes at)))

-- how many bytes of a line are shown at most on each side of a place, but for the rest of a
-- character behind it
abbrev pub most_bytes : ℕ
most_bytes = 70

-- where the shown part begins of a line that begins at start: there, if so many bytes reach back to
-- it
pub record IsShownFrom (bytes : List ℕ) (at start from : ℕ) : Type 0 where
  pub whole : at ≤ start + most_bytes → from ≡ start
  pub cut : start + most_bytes < at → IsPast bytes (at - most_bytes) at from

-- and where it ends of a line that ends at end: there, if so many bytes reach to it
pub record IsShownTo (bytes : List ℕ) (at end to : ℕ) : Type 0 where
  pub whole : end ≤ at + most_bytes → to ≡ end
  pub cut : at + most_bytes < end → IsPast bytes (at + most_bytes) end to

-- the part of its line that is shown of a place: the whole line where it is short enough, else up
-- to so many bytes on each side; on each side it is told whether something of the line is left out
pub record IsWindow (bytes : List ℕ) (at : ℕ) (w : Window) : Type 0 where
  pub start : ℕ
  pub begins : IsLineStart bytes at start
  pub from : IsShownFrom bytes at start w.from
  pub end : ℕ
  pub ends : IsShownEnd bytes at end
  pub to : IsShownTo bytes at end w.to
  pub before : (IsTrue w.before) ↔ (start < w.from)
  pub behind : (IsTrue w.behind) ↔ (w.to < end)

-- the part of a line that is shown, and the line under it with a caret under the place, for lines
-- that are readable or not
abbrev pub line_text : Bool → List ℕ → Window → List ℕ
line_text text bytes w =
    points w.before ++ flat_map (shown_byte text) (slice_range bytes w.from w.to) ++ points w.behind
    ++ codes "\n"

abbrev pub caret_text : Bool → List ℕ → ℕ → Window → List ℕ
caret_text text bytes at w = points_blank w.before
    ++ flat_map (blank_byte text) (slice_range bytes w.from at) ++ codes "^\n"

-- the text shows the place: in a window around it, whose bytes are shown as characters exactly
-- where they are readable
pub record ShowsPlace (bytes : List ℕ) (at : ℕ) (text : List ℕ) : Type 0 where
  pub window : Window
  pub around : IsWindow bytes at window
  pub readable : Bool
  pub is_text : (IsTrue readable) ↔ IsReadable (slice_range bytes window.from window.to)
  pub shown : text ≡ line_text readable bytes window ++ caret_text readable bytes at window

-- a text of this kind was appended
pub record Appends (P : List ℕ → Type 0) (before after : List ℕ) : Type 0 where
  pub text : List ℕ
  pub is : P text
  pub appended : after ≡ before ++ text
