-- Statements about the work of commands. Each stands on the contract of a function of `laws`.
use Rattle.std.specs.Prelude.{ℕ, List, Result}
use Rattle.world_rules.specs.Pure.{CellLookup}
use Rattle.nwq_outside.specs.Outside.{Contents}
use Rattle.command_work.specs.declared.status.Status.{Status}
use Rattle.command_work.specs.Work.{IsCut, Does, Finished}
use Rattle.command_work.specs.Outcomes.{Agrees, IsPrefix}
use Rattle.command_work.specs.Amounts.{Amount}
use Rattle.command_words.specs.Words.{Form}
use Rattle.command_work.specs.Counts.{KeepsBut}
use Rattle.nwq_top.specs.Command.{MayWrite, work_of, whole_work}
use Rattle.nwq_top.specs.Changes.{MayChange}
use Rattle.nwq_top.specs.Cuts.{IsFrontOf}

-- What a command does by the files and the bytes taken, where it isn't cut, is one thing: its
-- answer, what it leaves, what it puts.
abbrev pub OneOutcome : Type 0
OneOutcome = (cell : CellLookup) (form : Form) (r s : Result Finished Status) (c d e : Contents)
    (t u v : List ℕ) → (IsCut r → ⊥) → (IsCut s → ⊥)
    → Does (work_of cell form) c t r d u → Does (work_of cell form) c t s e v → Agrees r s d e u v

-- What a command puts, cut or not, is a prefix of what it puts where it isn't cut.
abbrev pub Prefixes : Type 0
Prefixes = (cell : CellLookup) (form : Form) (r s : Result Finished Status) (c d e : Contents)
    (t u v : List ℕ) → (IsCut s → ⊥)
    → Does (work_of cell form) c t r d u → Does (work_of cell form) c t s e v → IsPrefix u v

-- The same of the whole program, which reads tables first.
abbrev pub OneWhole : Type 0
OneWhole = (form : Form) (r s : Result Finished Status) (c d e : Contents) (t u v : List ℕ)
    → (IsCut r → ⊥) → (IsCut s → ⊥)
    → Does (whole_work form) c t r d u → Does (whole_work form) c t s e v → Agrees r s d e u v

abbrev pub WholePrefixes : Type 0
WholePrefixes = (form : Form) (r s : Result Finished Status) (c d e : Contents) (t u v : List ℕ)
    → (IsCut s → ⊥)
    → Does (whole_work form) c t r d u → Does (whole_work form) c t s e v → IsPrefix u v

-- What a command puts and leaves where it isn't cut is all that its work amounts to: its writes in
-- order, and its text.
abbrev pub WorksAmount : Type 0
WorksAmount = (cell : CellLookup) (form : Form) (r : Result Finished Status) (c c' : Contents)
    (t t' : List ℕ) → (IsCut r → ⊥)
    → Does (work_of cell form) c t r c' t' → Amount (work_of cell form) c t r c' t'

abbrev pub WholeAmounts : Type 0
WholeAmounts = (form : Form) (r : Result Finished Status) (c c' : Contents) (t t' : List ℕ)
    → (IsCut r → ⊥)
    → Does (whole_work form) c t r c' t' → Amount (whole_work form) c t r c' t'

-- What it puts and leaves, cut or not, is a front of that.
abbrev pub CutsLeaveFronts : Type 0
CutsLeaveFronts = (cell : CellLookup) (form : Form) (r : Result Finished Status) (c c' : Contents)
    (t t' : List ℕ)
    → Does (work_of cell form) c t r c' t' → IsFrontOf (work_of cell form) c t c' t'

abbrev pub WholeCutsLeaveFronts : Type 0
WholeCutsLeaveFronts = (form : Form) (r : Result Finished Status) (c c' : Contents) (t t' : List ℕ)
    → Does (whole_work form) c t r c' t' → IsFrontOf (whole_work form) c t c' t'

-- A command that keeps the names which it may not write changes no more than its end allows.
abbrev pub NamesChange : Type 0
NamesChange = (cell : CellLookup) (form : Form) (r : Result Finished Status) (c c' : Contents)
    (t t' : List ℕ)
    → KeepsBut (MayWrite form) c c' → Does (work_of cell form) c t r c' t'
    → KeepsBut (MayChange form c r) c c'

-- So does the whole program.
abbrev pub WholeNamesChange : Type 0
WholeNamesChange = (form : Form) (r : Result Finished Status) (c c' : Contents) (t t' : List ℕ)
    → KeepsBut (MayWrite form) c c' → Does (whole_work form) c t r c' t'
    → KeepsBut (MayChange form c r) c c'
