-- What a call promises of the bytes that a sink of any kind took.
use Rattle.std.specs.Prelude.{ℕ, Bool, true, false, List, []}

-- the bytes that a sink took where it tells them, and else those that were noted
abbrev pub told_bytes : Bool → List ℕ → List ℕ → List ℕ
told_bytes true taken noted = taken
told_bytes false taken noted = noted

-- What holds of the bytes that the sink had taken before a call and after it. Where it doesn't tell
-- them, it holds of no bytes before, and of some after.
abbrev pub Told : Bool → List ℕ → List ℕ → (List ℕ → List ℕ → Type 0) → Type 0
Told true before after P = P before after
Told false before after P = (bytes : List ℕ) × P [] bytes
