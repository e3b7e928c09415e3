-- How often files are read for the work of words: each once, where its turn comes.
use Rattle.std.specs.Prelude.{◌≡◌, ℕ, Result, Err, OnOk}
use Rattle.nwq_outside.specs.Outside.{Contents, next}
use Rattle.command_work.specs.declared.status.Status.{Status}
use Rattle.command_work.specs.Work.{Finished}
use Rattle.command_sources.specs.Reads.{header_read, ReadsUnit}
use Rattle.command_tables.specs.Reads.{ReadsTables, ReadsSomeTables}
use Rattle.command_play.specs.Reads.{ReadsGame}
use Rattle.command_words.specs.Words.{Form, Run, Compile, Tree, Check, Disassemble, Assemble, Play, Generate, Save, Resume, NoForm, list_of}

-- There was one read for each file that these words name or lead to, and no other. Of words that
-- lead to one file alone this holds whatever the answer is, and of others where the work is done.
abbrev pub ReadsOnce : Form → Result Finished Status → Contents → ℕ → ℕ → Type 0
ReadsOnce (Run header script) r c before now = OnOk r
    (ReadsUnit c script (header_read header before) now)
ReadsOnce (Compile header script) r c before now = OnOk r
    (ReadsUnit c script (header_read header before) now)
ReadsOnce (Tree file) r c before now = now ≡ next before
ReadsOnce (Check header file) r c before now = OnOk r (now ≡ next (header_read header before))
ReadsOnce (Disassemble file to) r c before now = now ≡ next before
ReadsOnce (Assemble file to) r c before now = now ≡ next before
ReadsOnce (Play header area plan to list) r c before now = OnOk r (ReadsGame header plan c before now)
ReadsOnce (Generate number) r c before now = now ≡ before
ReadsOnce (Save header area plan entries state list) r c before now = OnOk r
    (ReadsGame header plan c before now)
ReadsOnce (Resume state to list) r c before now = now ≡ next before
ReadsOnce NoForm r c before now = now ≡ before

-- For the whole program there were first those for the tables that the words give. Where it stopped
-- before the command itself began, there were no others.
pub data ReadsWhole (form : Form) (r : Result Finished Status) (c : Contents) (before now : ℕ)
    : Type 0 where
  goes_on : (between : ℕ) → ReadsTables (list_of form) c before between
      → ReadsOnce form r c between now
      → ReadsWhole form r c before now
  stops : (status : Status) → r ≡ Err status → ReadsSomeTables (list_of form) c before now
      → ReadsWhole form r c before now
