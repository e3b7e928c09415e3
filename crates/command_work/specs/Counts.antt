-- How the counts of files and sink stand after a part of a command, by its answer.
use Rattle.std.specs.Prelude.{◌≡◌, ◌≢◌, ℕ, false, ◌⊎◌, List, Result, Ok, Err}
use Rattle.nwq_outside.specs.declared.counts.CountOf.{CountOf}
use Rattle.nwq_outside.specs.declared.counts.CountOf.TheVariants.{Faults, Absences, Longs}
use Rattle.nwq_outside.specs.declared.counts.FileCounts.{FileCounts}
use Rattle.nwq_outside.specs.Outside.{Contents, content, SameWays, Rises, NoneRose, Rose}
use Rattle.command_work.specs.Work.{CutsShort}
use Rattle.command_work.specs.declared.status.Status.{Status}
use Rattle.command_work.specs.declared.status.Status.TheVariants.{Done, Words, Script, Code, Area, Limit, Missing, Fault, Memory, Long}

-- the counts of the files, and the faults of the sink
pub data Counts : Type 0 where
  Counted : (files : FileCounts) (puts : ℕ) → Counts

-- at most one refused read was counted: its line may be what was cut
abbrev pub RefusesOne : FileCounts → FileCounts → Type 0
RefusesOne files files' = NoneRose files files'
    ⊎ (Rose Absences files files' ⊎ Rose Longs files files')

-- a read was refused, and counted here
abbrev pub ReadCounted : CountOf → Counts → Counts → Type 0
ReadCounted which (Counted files puts) (Counted files' puts') = Rose which files files'
    × (puts' ≡ puts)

-- a read or write failed, or a put did, perhaps that of the line of an absent or long file
abbrev pub FaultCounted : Counts → Counts → Type 0
FaultCounted (Counted files puts) (Counted files' puts') =
    (Rose Faults files files' × (puts' ≡ puts)) ⊎ (RefusesOne files files' × Rises puts puts')

abbrev pub MemoryCounted : Counts → Counts → Type 0
MemoryCounted (Counted files puts) (Counted files' puts') = RefusesOne files files' × (puts' ≡ puts)

-- How the counts stand where a part ended with this status. A call that was refused outside is the
-- last one, and the status says which it was: with every other status each count is as before. Only
-- a call outside, or want of memory, may fail after an absent or long file was counted, while its
-- line is put.
abbrev pub TalliesEnd : Status → Counts → Counts → Type 0
TalliesEnd Done before now = ⊥
TalliesEnd Words before now = now ≡ before
TalliesEnd Script before now = now ≡ before
TalliesEnd Code before now = now ≡ before
TalliesEnd Area before now = now ≡ before
TalliesEnd Limit before now = now ≡ before
TalliesEnd Missing before now = ReadCounted Absences before now
TalliesEnd Fault before now = FaultCounted before now
TalliesEnd Memory before now = MemoryCounted before now
TalliesEnd Long before now = ReadCounted Longs before now

abbrev pub Tallies : {A : Type 0} → Result A Status → Counts → Counts → Type 0
Tallies (Ok a) before now = now ≡ before
Tallies (Err status) before now = TalliesEnd status before now

-- the sink's count where a put ended so
abbrev pub CutsPut : Status → ℕ → ℕ → Type 0
CutsPut Fault puts puts' = Rises puts puts'
CutsPut Memory puts puts' = puts' ≡ puts
CutsPut _ puts puts' = ⊥

-- the sink's count after a put, by its answer
abbrev pub CountsPut : {A : Type 0} → Result A Status → ℕ → ℕ → Type 0
CountsPut (Ok a) puts puts' = puts' ≡ puts
CountsPut (Err status) puts puts' = CutsPut status puts puts'

-- a name leads to no place of a name that may be written, and not to one at which a write may leave
-- a new file of its own
pub record IsOutside (MayWrite : List ℕ → Type 0) (c : Contents) (name : List ℕ) : Type 0 where
  pub apart : (other : List ℕ) → MayWrite other → c.place name ≢ c.place other
  pub own : c.spare (c.place name) ≡ false

-- each name leads where it led, and what leads to no place that may be written has what it had
unfoldable pub KeepsBut : (List ℕ → Type 0) → Contents → Contents → Type 0
KeepsBut MayWrite before after =
    SameWays before after × ((name : List ℕ) → IsOutside MayWrite before name
    → content after name ≡ content before name)

-- what stops a read: the file isn't there or is too long, or the work is cut
abbrev pub StopsRead : Status → Type 0
StopsRead Missing = Unit {0}
StopsRead Long = Unit {0}
StopsRead Fault = Unit {0}
StopsRead Memory = Unit {0}
StopsRead _ = ⊥

-- what stops a part that reads a source text: it isn't there, is too long or refused, or the work
-- is cut
abbrev pub StopsSource : Status → Type 0
StopsSource Script = Unit {0}
StopsSource status = StopsRead status

-- what stops a part that reads a file of bytecode or an assembler text: it isn't there, is too long
-- or refused, or the work is cut
abbrev pub StopsCode : Status → Type 0
StopsCode Code = Unit {0}
StopsCode status = StopsRead status

-- what stops a part that reads a GFF file, its area or a plan: it isn't there, is too long or
-- refused, or the work is cut
abbrev pub StopsArea : Status → Type 0
StopsArea Area = Unit {0}
StopsArea status = StopsRead status

-- a refusal answers its own status, or the work is cut
abbrev pub Refusing : Status → Status → Type 0
Refusing status answer = (answer ≡ status) ⊎ CutsShort answer
