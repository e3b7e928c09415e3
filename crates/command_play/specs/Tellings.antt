-- What is said of a play's files and statuses.
use Rattle.std.specs.Prelude.{◌≡◌, ℕ, ◌⊎◌, IsTrue, IfErr, List, Result}
use Rattle.nwq_outside.specs.declared.counts.FileCounts.{FileCounts}
use Rattle.nwq_outside.specs.Outside.{Contents}
use Rattle.nwq_text.specs.Names.{is_script_name}
use Rattle.command_work.specs.declared.status.Status.{Status}
use Rattle.command_work.specs.declared.status.Status.TheVariants.{Script, Code, Area, Limit}
use Rattle.command_work.specs.Calls.{TalliesOn}
use Rattle.command_work.specs.Counts.{KeepsBut, StopsRead}
use Rattle.command_work.specs.Work.{CutsShort, Finished}
use Rattle.command_compile.specs.Files.{code_name}

-- the file of bytecode of some script
pub record IsCodeFile (name : List ℕ) : Type 0 where
  pub script : List ℕ
  pub named : IsTrue (is_script_name script)
  pub is : name ≡ code_name script

-- what the play of a plan may write: files of bytecode, and the file in which the area is left
abbrev pub IsGameFile : List ℕ → List ℕ → Type 0
IsGameFile to name = IsCodeFile name ⊎ (name ≡ to)

-- what stops the play of a plan: a file isn't there or is too long, one is refused, a limit was
-- reached, or the work is cut
abbrev pub StopsGame : Status → Type 0
StopsGame Script = Unit {0}
StopsGame Code = Unit {0}
StopsGame Area = Unit {0}
StopsGame Limit = Unit {0}
StopsGame status = StopsRead status

-- what stops the end of a play: its area isn't written, a limit was reached, or the work is cut
abbrev pub StopsEnd : Status → Type 0
StopsEnd Area = Unit {0}
StopsEnd Limit = Unit {0}
StopsEnd status = CutsShort status

-- What a part of a command keeps to beside its work: how the counts of failures stand, which files
-- alone it writes, and what stops it.
pub record KeepsTo {F S : Type 0} (counts_of : F → FileCounts) (faults_of : S → ℕ)
    (contents_of : F → Contents)
    (own : List ℕ → Type 0) (stops : Status → Type 0) (r : Result Finished Status) (files : F)
    (out : S) (files' : F) (out' : S) : Type 0 where
  pub counts : TalliesOn counts_of faults_of r files out files' out'
  pub names : KeepsBut own (contents_of files) (contents_of files')
  pub only : IfErr r stops
