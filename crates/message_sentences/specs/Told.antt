-- What the last line on standard output tells of a refusal.
use Rattle.std.specs.Prelude.{◌≡◌, ℕ, ◌^◌, nat_lt, ◌<◌, ◌⊎◌, ◌==◌, if◌then◌else◌, List, [], ◌∷◌, ◌++◌, length, slice_index, Option, None, Some, MatchOption}
use Rattle.nwq_text.specs.Cuts.{cut_at}
use Rattle.nwq_text.specs.Number.{number_of}
use Rattle.command_work.specs.declared.status.Status.{Status}
use Rattle.command_work.specs.declared.status.Status.TheVariants as status
use Rattle.message_sentences.specs.declared.told.Told.{Told}
use Rattle.message_sentences.specs.declared.told.Told.TheVariants as told

-- what is told: nothing, or of a file, by its escaped name, that it is missing or too long, at
-- which offset it is refused for which cause, or which flaw it has
pub data Tale : Type 0 where
  Nothing : Tale
  Missing Long : (name : List ℕ) → Tale
  Place : (name : List ℕ) → (at : ℕ) → (cause : List ℕ) → Tale
  Flaw : (name flaw : List ℕ) → Tale

abbrev pub plain : Told → Tale
plain told.Nothing = Nothing
plain (told.Missing name) = Missing name.now
plain (told.Long name) = Long name.now
plain (told.Place name at cause) = Place name.now at cause.now
plain (told.Flaw name flaw) = Flaw name.now flaw.now

-- the line without its newline
abbrev pub without_newline : List ℕ → List ℕ
without_newline [] = []
without_newline (b ∷ []) = if b == 10 then [] else b ∷ []
without_newline (b ∷ c ∷ bs) = b ∷ without_newline (c ∷ bs)

abbrev pub behind : ℕ → ℕ → List ℕ → Option (List ℕ × List ℕ) → Option (List ℕ × List ℕ)
behind at b bs None = if b == at then Some ([], bs) else None
behind at b bs (Some p) = Some (b ∷ p.0, p.1)

-- what stands before the last such byte, and what follows it
unfoldable pub last_cut_at : ℕ → List ℕ → Option (List ℕ × List ℕ)
last_cut_at at [] = None
last_cut_at at (b ∷ bs) = behind at b bs (last_cut_at at bs)

-- an offset fits 32 bits
abbrev pub fitting : Option ℕ → Option ℕ
fitting None = None
fitting (Some n) = if nat_lt n (2 ^ 32) then Some n else None

abbrev pub place_at : List ℕ → List ℕ → Option ℕ → Option Tale
place_at name cause None = None
place_at name cause (Some at) = Some (Place name at cause)

abbrev pub name_in : List ℕ → List ℕ → Option (List ℕ × List ℕ) → Option Tale
name_in digits cause None = None
name_in digits cause (Some p) = place_at p.0 cause (fitting (number_of digits))

abbrev pub offset_in : List ℕ → Option (List ℕ × List ℕ) → Option Tale
offset_in cause None = None
offset_in cause (Some p) = name_in p.1 cause (last_cut_at 32 p.0)

abbrev pub cause_in : Option (List ℕ × List ℕ) → Option Tale
cause_in None = None
cause_in (Some p) = offset_in p.1 (last_cut_at 32 p.0)

-- of a source text the line tells the name, a line, the offset and the cause: the cause follows the
-- last blank, the offset the one before it, and the name ends at the third
unfoldable pub place_told : List ℕ → Option Tale
place_told rest = cause_in (last_cut_at 32 rest)

abbrev pub or_nothing : Option Tale → Tale
or_nothing None = Nothing
or_nothing (Some tale) = tale

-- a name ends there at a blank, or none does
abbrev pub EndsName : List ℕ → ℕ → Type 0
EndsName text n = (n ≡ 0) ⊎ ((n < length text) × (slice_index text n ≡ 32))

-- of another file the line tells the name and the flaw
abbrev pub TellsFlaw : List ℕ → Tale → Type 0
TellsFlaw rest Nothing = Unit {0}
TellsFlaw rest (Flaw name flaw) = rest ≡ name ++ 32 ∷ flaw
TellsFlaw rest (Missing name) = ⊥
TellsFlaw rest (Long name) = ⊥
TellsFlaw rest (Place name at cause) = ⊥

-- what follows the first word of the line tells this, where a command ended so
abbrev pub IsTold : Status → List ℕ → Tale → Type 0
IsTold status.Missing rest tale = tale ≡ Missing rest
IsTold status.Long rest tale = tale ≡ Long rest
IsTold status.Script rest tale = tale ≡ or_nothing (place_told rest)
IsTold status.Code rest tale = TellsFlaw rest tale
IsTold status.Area rest tale = TellsFlaw rest tale
IsTold _ rest tale = tale ≡ Nothing

-- so does the last line
abbrev pub IsToldBy : Status → List ℕ → Tale → Type 0
IsToldBy s line tale =
    MatchOption (cut_at 32 (without_newline line)) (tale ≡ Nothing) (λ p. IsTold s p.1 tale)
