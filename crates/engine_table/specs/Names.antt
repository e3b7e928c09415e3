-- Lists of names.
use Rattle.std.specs.Prelude.{ℕ, Bool, false, ◌||◌, List, [], ◌∷◌, ◌++◌, bytes_eq, if◌then◌else◌}

abbrev pub is_among : List ℕ → List (List ℕ) → Bool
is_among name [] = false
is_among name (w ∷ ws) = bytes_eq name w || is_among name ws

-- with this name, once
abbrev pub with_word : List ℕ → List (List ℕ) → List (List ℕ)
with_word n words = if is_among n words then words else words ++ n ∷ []
