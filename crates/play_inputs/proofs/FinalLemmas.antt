-- What comes of a tree's file does the work of writing it.
use Rattle.std.proofs.Common.{◌≡◌, ℕ, List, Result, Ok, Err, sym, subst}
use Rattle.nwq_outside.specs.Outside.{Contents}
use Rattle.gff_tree.specs.Whole.{PlainGff}
use Rattle.gff_write.specs.declared.fault.WriteFault.TheVariants as fault
use Rattle.gff_write.specs.File.{written, outcome_of}
use Rattle.command_work.specs.declared.flaw.AreaFlaw.TheVariants as flaw
use Rattle.command_work.specs.declared.status.Status.{Status}
use Rattle.command_work.specs.Refusal.{BadArea}
use Rattle.command_work.specs.Work.{Does, Finished, writes}
use Rattle.command_work.specs.Parts.{Refuses, refused}
use Rattle.play_inputs.specs.Finals.{final_by, final_written}
use Rattle.play_inputs.specs.Wanted.{final_cut}

module _ (name : List ℕ) (tree : PlainGff) where
  pub final_does : (bytes : List ℕ) (r : Result Finished Status) (c c' : Contents) (t : List ℕ) → outcome_of (written tree) ≡ Ok bytes
      → Does (writes name bytes) c t r c' t → Does (final_written name tree) c t r c' t
  unfolding final_written
  final_does bytes r c c' t is does = subst (λ o. Does (final_by name o) c t r c' t) (sym is) does

  pub final_large : (size : ℕ) (answer : Status) (c : Contents) (t t' : List ℕ) → outcome_of (written tree) ≡ Err (fault.Large size)
      → Refuses (BadArea name (flaw.Large size)) t answer t' → Does (final_written name tree) c t (Err answer) c t'
  unfolding final_written
  final_large size answer c t t' is h =
      subst (λ o. Does (final_by name o) c t (Err answer) c t') (sym is) (refused (BadArea name (flaw.Large size)) answer c t t' h)

pub ruleset finals = (final_does, final_large, final_cut)
