-- Which line is kept for a message.
use Rattle.std.specs.Prelude.{◌≡◌, ◌<◌, ◌⊎◌, ℕ, List, [], length}

-- how long a kept line is at most
abbrev pub most_bytes : ℕ
most_bytes = 8192

-- Of a piece that was put this is kept: the piece, or nothing, where it was longer or there was no
-- memory for it. Nothing is left of the pieces before.
pub record Keeps (piece line : List ℕ) : Type 0 where
  pub last : (line ≡ piece) ⊎ (line ≡ [])
  pub long : most_bytes < length piece → line ≡ []
