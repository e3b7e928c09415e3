-- What is answered of a unit, of whichever files.
use Rattle.std.specs.Prelude.{◌≡◌, ℕ, zero, suc, List, [], ◌∷◌, length, Some, None, Result, Ok, Err}
use Rattle.std.specs.List.{AllByRecursion}
use Rattle.nwq_outside.specs.declared.counts.CountOf.TheVariants.{Faults, Absences, Longs}
use Rattle.nwq_outside.specs.declared.counts.FileCounts.{FileCounts}
use Rattle.nwq_outside.specs.Outside.{next, NoneRose, Rose}
use Rattle.nss_lexer.specs.Splitting.{Lexeme}
use Rattle.nss_include.specs.declared.fault.GatherFault.{GatherFault}
use Rattle.nss_include.specs.declared.fault.GatherFault.TheVariants.{Missing, Fault, Long, Bad, Tokens, Include, NoMemory}
use Rattle.nss_include.specs.declared.file.Source.{Source}
use Rattle.nss_include.specs.Names.{file_name}
use Rattle.nss_include.specs.Units.{Lookup, IsUnit}
use Rattle.nss_include.specs.View.{Gathered}

-- each file of the unit has what is under its name
abbrev pub HoldsFiles : Lookup → List Source → Type 0
HoldsFiles lookup files = AllByRecursion (λ f. lookup f.name ≡ Some f.bytes) files

-- a claim on a fault that is neither want of memory nor a failure of the outside
abbrev pub Claims : GatherFault → Type 0 → Type 0
Claims (Missing name) P = P
Claims (Long name) P = P
Claims Fault P = Unit {0}
Claims (Bad spot) P = P
Claims (Tokens spot) P = P
Claims (Include spot) P = P
Claims NoMemory P = Unit {0}

-- What the counts of files are after such an answer: none rose but that of the fault of the outside
-- which it gives.
abbrev pub CountsGathered : {A : Type 0} → Result A GatherFault → FileCounts → FileCounts → Type 0
CountsGathered (Ok a) before now = NoneRose before now
CountsGathered (Err (Missing name)) before now = Rose Absences before now
CountsGathered (Err (Long name)) before now = Rose Longs before now
CountsGathered (Err Fault) before now = Rose Faults before now
CountsGathered (Err (Bad spot)) before now = NoneRose before now
CountsGathered (Err (Tokens spot)) before now = NoneRose before now
CountsGathered (Err (Include spot)) before now = NoneRose before now
CountsGathered (Err NoMemory) before now = NoneRose before now

-- the count of reads after so many more
abbrev pub after_reads : ℕ → ℕ → ℕ
after_reads zero count = count
after_reads (suc n) count = next (after_reads n count)

-- there was one read for each of these files, whose names are distinct in a unit
abbrev pub AreReadOnce : List Source → ℕ → ℕ → Type 0
AreReadOnce files before now = now ≡ after_reads (length files) before

-- the file of this script stands first
abbrev pub HasScript : List Source → List ℕ → Type 0
HasScript [] script = ⊥
HasScript (file ∷ files) script = file.name ≡ file_name script

-- the unit of this script, or its first fault
abbrev pub Gathers : Lookup → List ℕ → Result Gathered GatherFault → Type 0
Gathers lookup script (Ok unit) = IsUnit lookup script unit.tokens unit.files None
Gathers lookup script (Err fault) = Claims fault
    ((tokens : List Lexeme) × (files : List Source)
    × IsUnit lookup script tokens files (Some fault))
