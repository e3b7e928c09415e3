-- The file of an area that goes back.
use Rattle.std.specs.Prelude.{ℕ, List, Result, Ok, Err}
use Rattle.gff_tree.specs.Whole.{PlainGff}
use Rattle.gff_write.specs.declared.fault.WriteFault.{WriteFault}
use Rattle.gff_write.specs.declared.fault.WriteFault.TheVariants as fault
use Rattle.gff_write.specs.File.{written, outcome_of}
use Rattle.command_work.specs.declared.flaw.AreaFlaw.TheVariants as flaw
use Rattle.command_work.specs.declared.status.Status.TheVariants.{Memory}
use Rattle.command_work.specs.Refusal.{BadArea}
use Rattle.command_work.specs.Work.{Work, Refused, Ends, Finished, writes}

-- what comes of a tree's file: it is written, or too large
abbrev pub final_by : List ℕ → Result (List ℕ) WriteFault → Work Finished
final_by name (Ok bytes) = writes name bytes
final_by name (Err (fault.Large size)) = Refused (BadArea name (flaw.Large size))
final_by name (Err fault.NoMemory) = Ends Memory

-- the one file of a tree is written under this name, unless it is larger than a file may be
unfoldable pub final_written : List ℕ → PlainGff → Work Finished
final_written name tree = final_by name (outcome_of (written tree))
