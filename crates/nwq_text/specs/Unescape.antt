use Rattle.std.specs.Prelude.{◌≡◌, ◌≢◌, ℕ, ◌+◌, ◌-◌, ◌*◌, ◌<◌, ◌≤◌, length, Bool, ◌&&◌, not, ◌==◌, nat_le, if◌then◌else◌, List, [], ◌∷◌, Option, Some, None, MatchOption}
use Rattle.std.specs.List.{flat_map}
use Rattle.nwq_value.specs.Limits.{text_limit}
use Rattle.nwq_text.specs.Escape.{is_plain, spelling, AreBytes}

-- the number of a hexadecimal digit in lower case
abbrev pub hex_value : ℕ → Option ℕ
hex_value c = if nat_le 48 c && nat_le c 57 then Some (c - 48) else if nat_le 97 c
    && nat_le c 102 then Some (c - 87) else None

-- a byte that has no shorter spelling than its hexadecimal digits
abbrev pub is_spelled_in_hex : Bool → ℕ → Bool
is_spelled_in_hex q b = not (b == 92) && not (b == 10) && not (is_plain q b)

-- the byte of two hexadecimal digits, where that is how it is spelled, and what follows
abbrev pub hex_pair : Bool → Option ℕ → Option ℕ → List ℕ → Option (ℕ × List ℕ)
hex_pair q (Some high) (Some low) rest =
    if is_spelled_in_hex q (16 * high + low) then Some (16 * high + low, rest) else None
hex_pair q (Some high) None rest = None
hex_pair q None low rest = None

-- the byte that is spelled at the front of what follows `\x`, and what follows it
abbrev pub after_x : Bool → List ℕ → Option (ℕ × List ℕ)
after_x q [] = None
after_x q (high ∷ []) = None
after_x q (high ∷ low ∷ rest) = hex_pair q (hex_value high) (hex_value low) rest

-- the same of what follows a backslash
abbrev pub after_backslash : Bool → List ℕ → Option (ℕ × List ℕ)
after_backslash q [] = None
after_backslash q (c ∷ rest) =
    if c == 92 then Some (92, rest) else if c == 110 then Some
    (10, rest) else if c == 120 then after_x q rest else None

-- the byte that is spelled at the front of a text, in quotes or without, and what follows it
unfoldable pub front_spelled : Bool → List ℕ → Option (ℕ × List ℕ)
front_spelled q [] = None
front_spelled q (c ∷ rest) =
    if c == 92 then after_backslash q rest else if is_plain q c then Some (c, rest) else None

-- the bytes whose spellings in a row the text is, and nothing exactly where it is that of none
abbrev pub Unescapes : Bool → List ℕ → Option (List ℕ) → Type 0
Unescapes q text read =
    MatchOption read ((bytes : List ℕ) → AreBytes bytes → text ≢ flat_map (spelling q) bytes)
    (λ bytes. AreBytes bytes × (text ≡ flat_map (spelling q) bytes))

-- the text is all of the bytes, where it may have so many, and else there is none
abbrev pub KeepsAll : List ℕ → Option (List ℕ) → Type 0
KeepsAll bytes read = MatchOption read (text_limit < length bytes)
    (λ text. (length bytes ≤ text_limit) × (text ≡ bytes))
