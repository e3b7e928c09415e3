-- How often files are read once the tables are there.
use Rattle.std.specs.Prelude.{◌≡◌, ◌⊎◌, ℕ, Result}
use Rattle.nwq_outside.specs.Outside.{Contents}
use Rattle.command_work.specs.declared.status.Status.{Status}
use Rattle.command_work.specs.Work.{Finished, IsCut}
use Rattle.command_words.specs.Words.{Form}
use Rattle.nwq_top.specs.Reads.{ReadsOnce}

-- the command did its reads, or there was no memory for the hooks and nothing was read
abbrev pub ReadsOrNone : Form → Result Finished Status → Contents → ℕ → ℕ → Type 0
ReadsOrNone form r c before now = ReadsOnce form r c before now ⊎ (IsCut r × (now ≡ before))
