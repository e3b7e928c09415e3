-- Labels as lists of bytes.
use Rattle.std.specs.Prelude.{ℕ, ◌==◌, Bool, ◌||◌, nat_lt, if◌then◌else◌, List, [], ◌∷◌, length, Option, Some, None}
use Rattle.std.specs.List.{list_any}

-- bytes of a label
abbrev pub label_limit : ℕ
label_limit = 16

abbrev pub has_zero : List ℕ → Bool
has_zero text = list_any (λ b. b == 0) text

-- the label of a text: there is none where it has more than that many bytes, or a zero byte
abbrev pub label_of : List ℕ → Option (List ℕ)
label_of text = if nat_lt label_limit (length text) || has_zero text then None else Some text

-- the bytes before the first zero byte
abbrev pub label_text : List ℕ → List ℕ
label_text [] = []
label_text (b ∷ bytes) = if b == 0 then [] else b ∷ label_text bytes
