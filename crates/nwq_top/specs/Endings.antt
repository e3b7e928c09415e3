-- Which statuses can come of which form of words.
use Rattle.std.specs.Prelude.{Result, Ok, Err}
use Rattle.command_work.specs.declared.status.Status.{Status}
use Rattle.command_work.specs.declared.status.Status.TheVariants.{Done, Words, Fault, Memory}
use Rattle.command_work.specs.Work.{Finished}
use Rattle.command_work.specs.Counts.{StopsSource, StopsCode, StopsArea}
use Rattle.command_files.specs.Checks.{StopsCheck}
use Rattle.command_run.specs.Runs.{StopsRun}
use Rattle.command_play.specs.Tellings.{StopsGame}
use Rattle.command_generate.specs.Generated.{StopsGenerate}
use Rattle.command_save.specs.Tellings.{StopsResume}
use Rattle.command_words.specs.Words.{Form, Run, Compile, Tree, Check, Disassemble, Assemble, Play, Generate, Save, Resume, NoForm}

abbrev pub EndsWords : Status → Type 0
EndsWords Words = Unit {0}
EndsWords Fault = Unit {0}
EndsWords Memory = Unit {0}
EndsWords _ = ⊥

abbrev pub EndsRun : Status → Type 0
EndsRun Done = Unit {0}
EndsRun status = StopsRun status

abbrev pub EndsCompile : Status → Type 0
EndsCompile Done = Unit {0}
EndsCompile status = StopsSource status

abbrev pub EndsTree : Status → Type 0
EndsTree Done = Unit {0}
EndsTree status = StopsArea status

abbrev pub EndsCheck : Status → Type 0
EndsCheck Done = Unit {0}
EndsCheck status = StopsCheck status

abbrev pub EndsCode : Status → Type 0
EndsCode Done = Unit {0}
EndsCode status = StopsCode status

abbrev pub EndsPlay : Status → Type 0
EndsPlay Done = Unit {0}
EndsPlay status = StopsGame status

abbrev pub EndsGenerate : Status → Type 0
EndsGenerate Done = Unit {0}
EndsGenerate status = StopsGenerate status

abbrev pub EndsResume : Status → Type 0
EndsResume Done = Unit {0}
EndsResume status = StopsResume status

-- one table: the status may come of this form
abbrev pub ComesOf : Form → Status → Type 0
ComesOf (Run header script) status = EndsRun status
ComesOf (Compile header script) status = EndsCompile status
ComesOf (Tree file) status = EndsTree status
ComesOf (Check header file) status = EndsCheck status
ComesOf (Disassemble file to) status = EndsCode status
ComesOf (Assemble file to) status = EndsCode status
ComesOf (Play header area plan to list) status = EndsPlay status
ComesOf (Generate number) status = EndsGenerate status
ComesOf (Save header area plan entries state list) status = EndsPlay status
ComesOf (Resume state to list) status = EndsResume status
ComesOf NoForm status = EndsWords status

-- the same of a command's answer, in which `Done` is no error
abbrev pub StopsCommand : Form → Status → Type 0
StopsCommand (Run header script) status = StopsRun status
StopsCommand (Compile header script) status = StopsSource status
StopsCommand (Tree file) status = StopsArea status
StopsCommand (Check header file) status = StopsCheck status
StopsCommand (Disassemble file to) status = StopsCode status
StopsCommand (Assemble file to) status = StopsCode status
StopsCommand (Play header area plan to list) status = StopsGame status
StopsCommand (Generate number) status = StopsGenerate status
StopsCommand (Save header area plan entries state list) status = StopsGame status
StopsCommand (Resume state to list) status = StopsResume status
StopsCommand NoForm status = EndsWords status

abbrev pub ComesOfResult : Form → Result Finished Status → Type 0
ComesOfResult form (Ok done) = ComesOf form Done
ComesOfResult form (Err status) = StopsCommand form status
