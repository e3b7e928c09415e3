-- The lines of a text.
use Rattle.std.specs.Prelude.{◌≡◌, ℕ, ◌-◌, ◌<◌, ◌==◌, if◌then◌else◌, List, [], ◌∷◌, length, take, drop}
use Rattle.std.specs.List.{slice_split}

-- a line without the carriage return at its end
abbrev pub without_return : List ℕ → List ℕ
without_return [] = []
without_return (b ∷ []) = if b == 13 then [] else b ∷ []
without_return (b ∷ c ∷ bs) = b ∷ without_return (c ∷ bs)

-- the lines in the parts that newlines part: a part before a newline loses the carriage return at
-- its end, and the last part is a line as it is, where it isn't empty
abbrev pub lines_in : List (List ℕ) → List (List ℕ)
lines_in [] = []
lines_in ([] ∷ []) = []
lines_in ((b ∷ bs) ∷ []) = (b ∷ bs) ∷ []
lines_in (part ∷ next ∷ parts) = without_return part ∷ lines_in (next ∷ parts)

-- the lines of a text
unfoldable pub lines_of : List ℕ → List (List ℕ)
lines_of text = lines_in (slice_split (λ b. b == 10) text)

-- a text that is read line by line
pub record Reading : Type 0 where
  pub text : List ℕ  -- the whole text
  pub read : ℕ  -- how many of its lines were read
  pub left : List (List ℕ)  -- the lines that weren't

-- the first line of a text, which begins with it, and what follows
pub record IsFirstLine (text line rest : List ℕ) : Type 0 where
  pub lines : lines_of text ≡ line ∷ lines_of rest
  pub front : take (length line) text ≡ line
  pub back : drop (length text - length rest) text ≡ rest
  pub shorter : length rest < length text
