-- Sentences with a gap for a name or a token.
use Rattle.std.specs.Prelude.{ℕ, List, [], ◌∷◌, ◌==◌, if◌then◌else◌}
use Rattle.std.specs.List.{flat_map}
use Rattle.nwq_text.specs.Escape.{escaped}

-- a byte of a sentence, or the escaped piece for a `%`
abbrev pub filled_byte : List ℕ → ℕ → List ℕ
filled_byte piece b = if b == 37 then escaped piece else b ∷ []

-- the sentence with the escaped piece for each `%`
abbrev pub filled : List ℕ → List ℕ → List ℕ
filled piece sentence = flat_map (filled_byte piece) sentence
