-- What is kept for a message of what went through files.
use Rattle.std.specs.Prelude.{◌≡◌, ◌⊎◌, ℕ, List}
use Rattle.std.specs.FinMap as map
use Rattle.nwq_outside.specs.Outside.{Held}
use Rattle.nwq_outside.specs.declared.answer.Read.{Read}
use Rattle.nwq_outside.specs.declared.answer.Read.TheVariants.{Bytes, Missing, Failed, Long, NoMemory}

-- these bytes are kept under the name, or nothing more is kept
abbrev pub Keeps : (name bytes : List ℕ) → Held → Held → Type 0
Keeps name bytes before after = (after ≡ map.insert before name bytes) ⊎ (after ≡ before)

-- what is kept after a read of a name with this answer
abbrev pub KeepsRead : List ℕ → Read → Held → Held → Type 0
KeepsRead name (Bytes bytes) before after = Keeps name bytes.items before after
KeepsRead name Missing before after = after ≡ before
KeepsRead name Failed before after = after ≡ before
KeepsRead name Long before after = after ≡ before
KeepsRead name NoMemory before after = after ≡ before
