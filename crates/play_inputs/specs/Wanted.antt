-- Memory may be wanted for the file of an area until it is written. No contract speaks of this
-- lemma; it serves the proofs of commands that leave an area.
use mathlib.Core.Path.{refl}
use Rattle.std.specs.Prelude.{ℕ, List, Result, Ok, Err}
use Rattle.nwq_outside.specs.Outside.{Contents}
use Rattle.gff_tree.specs.Whole.{PlainGff}
use Rattle.gff_write.specs.declared.fault.WriteFault.{WriteFault}
use Rattle.gff_write.specs.declared.fault.WriteFault.TheVariants as fault
use Rattle.gff_write.specs.File.{written, outcome_of}
use Rattle.command_work.specs.declared.flaw.AreaFlaw.TheVariants as flaw
use Rattle.command_work.specs.declared.status.Status.TheVariants.{Memory}
use Rattle.command_work.specs.Refusal.{BadArea}
use Rattle.command_work.specs.Work.{Refused, Does, Finished, writes}
use Rattle.command_work.specs.Parts.{cut_here, may_write}
use Rattle.play_inputs.specs.Finals.{final_by, final_written}

module _ (name : List ℕ) (c : Contents) (t : List ℕ) where
  by_outcome : (outcome : Result (List ℕ) WriteFault)
      → Does (final_by name outcome) c t (Err Memory) c t
  by_outcome (Ok bytes) = cut_here (writes name bytes) Memory c c t t
      (may_write name bytes) tt refl refl
  by_outcome (Err (fault.Large size)) = cut_here {A = Finished}
      (Refused (BadArea name (flaw.Large size))) Memory c c t t tt tt refl refl
  by_outcome (Err fault.NoMemory) = (refl, (refl, refl))

  pub final_cut : (tree : PlainGff) → Does (final_written name tree) c t (Err Memory) c t
  unfolding final_written
  final_cut tree = by_outcome (outcome_of (written tree))
