-- Which names a command may have changed, by what the files hold and how it ends.
use Rattle.std.specs.Prelude.{◌≡◌, ◌⊎◌, ℕ, List, Result, Ok, Err}
use Rattle.nwq_outside.specs.Outside.{Contents}
use Rattle.plan_text.specs.declared.plan.Plan.{Plan}
use Rattle.command_work.specs.declared.status.Status.{Status}
use Rattle.command_work.specs.Work.{CutsShort, Finished}
use Rattle.play_inputs.specs.Listings.{IsSourceFile}
use Rattle.command_words.specs.Words.{Form, Run, Compile, Tree, Check, Disassemble, Assemble, Play, Generate, Save, Resume, NoForm}
use Rattle.nwq_top.specs.Accepting.{ReadsPlan}
use Rattle.nwq_top.specs.Command.{MayWrite}

-- the name is that of the file of a source which the plan lists
pub record IsListedFile (c : Contents) (plan name : List ℕ) : Type 0 where
  pub is : Plan
  pub reads : ReadsPlan c plan is
  pub listed : IsSourceFile is.scripts name

-- an area, or a state, may have been left: the play was done, or the call was cut
abbrev pub MayLeave : Result Finished Status → Type 0
MayLeave (Ok done) = Unit {0}
MayLeave (Err status) = CutsShort status

-- `play` and `save` change the files of the plan's sources, and these and `resume` their last
-- word's file only where something may have been left there; the others change what they may write
abbrev pub MayChange : Form → Contents → Result Finished Status → List ℕ → Type 0
MayChange (Run header script) c r name = MayWrite (Run header script) name
MayChange (Compile header script) c r name = MayWrite (Compile header script) name
MayChange (Tree file) c r name = MayWrite (Tree file) name
MayChange (Check header file) c r name = MayWrite (Check header file) name
MayChange (Disassemble file to) c r name = MayWrite (Disassemble file to) name
MayChange (Assemble file to) c r name = MayWrite (Assemble file to) name
MayChange (Play header area plan to list) c r name = IsListedFile c plan name
    ⊎ (MayLeave r × (name ≡ to))
MayChange (Generate number) c r name = MayWrite (Generate number) name
MayChange (Save header area plan entries state list) c r name = IsListedFile c plan name
    ⊎ (MayLeave r × (name ≡ state))
MayChange (Resume state to list) c r name = MayLeave r × (name ≡ to)
MayChange NoForm c r name = MayWrite NoForm name
