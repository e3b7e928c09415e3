-- That an input has an answer: an outcome of the work that isn't cut. Each statement stands on the
-- contract of a function of `laws`.
use Rattle.std.specs.Prelude.{ℕ, List, Result}
use Rattle.nwq_outside.specs.Outside.{Contents, ContentsAreBytes}
use Rattle.world_rules.specs.Pure.{CellLookup}
use Rattle.play_room.specs.Kept.{CellsAreBytes}
use Rattle.command_work.specs.declared.status.Status.{Status}
use Rattle.command_work.specs.Work.{Work, IsCut, Does, Finished}
use Rattle.command_words.specs.Words.{Form, Run, Compile, Tree, Disassemble, Assemble, Generate, NoForm, form_of}
use Rattle.nwq_top.specs.Command.{work_of, whole_work}

-- from these contents and taken bytes on the work has this outcome, which isn't cut
pub record Outcome (w : Work Finished) (c : Contents) (t : List ℕ) : Type 0 where
  pub answer : Result Finished Status
  pub left : Contents
  pub taken : List ℕ
  pub whole : IsCut answer → ⊥
  pub does : Does w c t answer left taken

-- That it has none is refuted. With excluded middle, which nothing here assumes, it has one.
abbrev pub HasOutcome : Work Finished → Contents → List ℕ → Type 0
HasOutcome w c t = (Outcome w c t → ⊥) → ⊥

-- ---- the law

-- whatever the words are, whatever bytes the files and the cells of tables hold, and whatever was
-- taken
abbrev pub EachHasOutcome : Type 0
EachHasOutcome = (cell : CellLookup) (words : List (List ℕ)) (c : Contents) (t : List ℕ)
    → CellsAreBytes cell → ContentsAreBytes c
    → HasOutcome (work_of cell (form_of words)) c t

-- the same of the whole program, which reads tables first
abbrev pub EachWholeHasOutcome : Type 0
EachWholeHasOutcome = (words : List (List ℕ)) (c : Contents) (t : List ℕ) → ContentsAreBytes c
    → HasOutcome (whole_work (form_of words)) c t

-- these check no bytecode, and read neither a plan nor a state
abbrev pub IsPlainForm : Form → Type 0
IsPlainForm (Run header script) = Unit {0}
IsPlainForm (Compile header script) = Unit {0}
IsPlainForm (Tree file) = Unit {0}
IsPlainForm (Disassemble file to) = Unit {0}
IsPlainForm (Assemble file to) = Unit {0}
IsPlainForm (Generate number) = Unit {0}
IsPlainForm NoForm = Unit {0}
IsPlainForm _ = ⊥

-- Their outcome is there, without excluded middle.
abbrev pub PlainHaveOutcomes : Type 0
PlainHaveOutcomes = (cell : CellLookup) (words : List (List ℕ)) (c : Contents) (t : List ℕ)
    → ContentsAreBytes c → IsPlainForm (form_of words)
    → Outcome (work_of cell (form_of words)) c t
