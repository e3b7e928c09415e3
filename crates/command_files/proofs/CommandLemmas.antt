-- A file is written, and then a line is put.
use Rattle.std.proofs.Common.{◌≡◌, ℕ, List, Result, Ok, Err, refl, subst}
use Rattle.nwq_outside.specs.declared.counts.FileCounts.{FileCounts}
use Rattle.nwq_outside.specs.Outside.{Contents}
use Rattle.command_work.specs.declared.status.Status.{Status}
use Rattle.command_work.specs.declared.status.Status.TheVariants.{Memory}
use Rattle.command_work.specs.Work.{Does, Finished, puts, writes}
use Rattle.command_work.specs.Parts.{PutsWhole, cut_here, then_ok, puts_does}
use Rattle.command_work.specs.Counts.{Counted, Tallies}
use Rattle.command_files.specs.Commands.{writes_and_puts}

pub written_told : (name bytes line : List ℕ) (done : Finished) (r : Result Finished Status) (c c1 : Contents) (t t' : List ℕ) → Does (writes name bytes) c t (Ok done) c1 t
    → PutsWhole line t r t' → Does (writes_and_puts name bytes line) c t r c1 t'
unfolding writes_and_puts
written_told name bytes line done r c c1 t t' wrote told =
    then_ok (writes name bytes) (λ d. puts line) done c c1 c1 t t t' r wrote (puts_does line r c1 t t' told)

-- the bytes are still to be made
pub bytes_wanted : (name bytes line : List ℕ) (c : Contents) (t : List ℕ) → Does (writes_and_puts name bytes line) c t (Err Memory) c t
unfolding writes_and_puts writes
bytes_wanted name bytes line c t = cut_here (writes_and_puts name bytes line) Memory c c t t tt tt refl refl

pub written_counted : (files files' : FileCounts) (put put' : ℕ) (r : Result Finished Status) → ((p : ℕ) → Counted files' p ≡ Counted files p)
    → Tallies r (Counted files' put) (Counted files' put') → Tallies r (Counted files put) (Counted files' put')
written_counted files files' put put' r same tallies = subst (λ before. Tallies r before (Counted files' put')) (same put) tallies
