-- A sink over a writer, and what the writer is handed where its kind says which bytes it holds.
use Rattle.std.specs.Prelude.{ℕ, List, Option}
use Rattle.std.specs.Io.KnownBytes.{Appends}
use Rattle.nwq_outside.specs.declared.answer.Done.{Done}
use Rattle.nwq_outside.specs.declared.answer.Done.TheVariants as done

-- how many puts failed, and the bytes that the writer holds, where they are known
pub record Written : Type 0 where
  pub faults : ℕ
  pub known : Option (List ℕ)

-- a put that is answered so handed the whole piece to the writer; of one that failed nothing is
-- said
abbrev pub Hands : List ℕ → Option (List ℕ) → Option (List ℕ) → Done → Type 0
Hands piece before after done.Ok = Appends before after piece
Hands piece before after done.Failed = Unit {0}
Hands piece before after done.NoMemory = Unit {0}
