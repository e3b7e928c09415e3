-- What a part of a command promises of the files and of the sink that it is given, of whatever
-- kinds these are: what they hold and what they took, and how their counts stand.
use Rattle.std.specs.Prelude.{◌≡◌, ℕ, List, Result}
use Rattle.nwq_outside.specs.declared.counts.FileCounts.{FileCounts}
use Rattle.nwq_outside.specs.Outside.{Contents}
use Rattle.command_work.specs.declared.status.Status.{Status}
use Rattle.command_work.specs.Work.{Work, Does}
use Rattle.command_work.specs.Counts.{Counted, Tallies, TalliesEnd}

-- the work is done on the files and the sink
abbrev pub DoesOn : {F S A : Type 0} → (F → Contents) → (S → List ℕ) → Work A → F → S
    → Result A Status → F → S → Type 0
DoesOn contents taken work files out result files' out' = Does work (contents files)
    (taken out) result (contents files') (taken out')

-- so it is on the sink, of a part that has no files
abbrev pub DoesPuts : {S A : Type 0} → (S → List ℕ) → Work A → S → Result A Status → S → Type 0
DoesPuts taken work out result out' = (c : Contents) → Does work c (taken out) result c (taken out')

-- the counts of both stand as the answer says
abbrev pub TalliesOn : {F S A : Type 0} → (F → FileCounts) → (S → ℕ) → Result A Status → F → S → F
    → S → Type 0
TalliesOn counts faults result files out files' out' = Tallies result
    (Counted (counts files) (faults out)) (Counted (counts files') (faults out'))

-- so does the sink's count, of a part that has no files
abbrev pub TalliesPuts : {S A : Type 0} → (S → ℕ) → Result A Status → S → S → Type 0
TalliesPuts faults result out out' = (counts : FileCounts)
    → Tallies result (Counted counts (faults out)) (Counted counts (faults out'))

abbrev pub TalliesStop : {S : Type 0} → (S → ℕ) → Status → S → S → Type 0
TalliesStop faults status out out' = (counts : FileCounts)
    → TalliesEnd status (Counted counts (faults out)) (Counted counts (faults out'))

-- the one name
abbrev pub IsName : List ℕ → List ℕ → Type 0
IsName name = λ other. other ≡ name
