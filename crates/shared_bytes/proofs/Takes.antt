-- What a text keeps of bytes that it has room for.
use Rattle.std.proofs.Common.{◌≡◌, ◌≤◌, ◌∙◌, ℕ, List, length, take}
use Rattle.std.proofs.lemmas.List as lists
use Rattle.nwq_value.specs.Limits.{text_limit}

pub takes_all : (bytes copy : List ℕ) → length bytes ≤ text_limit → copy ≡ take text_limit bytes → copy ≡ bytes
takes_all bytes copy fits is = is ∙ lists.take_all text_limit bytes fits
