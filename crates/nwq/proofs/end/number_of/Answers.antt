use Rattle.std.proofs.Common.{Err, refl, subst, sym}
use Rattle.command_work.specs.declared.status.Status.TheVariants.{Memory}
use Rattle.command_work.specs.KeepsLemmas.{keeps_all}
use Rattle.nwq_top.specs.Command.{MayWrite, whole_work}
use Rattle.nwq_top.specs.Cuts.{IsFrontOf}
use Rattle.nwq_top.specs.Reads.{ReadsWhole}
use Rattle.telling_sink.specs.ToldLemmas.{told_nothing}
use Rattle.nwq.specs.Ending.{form_in}
use Rattle.nwq.proofs.EndLemmas.{whole_cut}
use Rattle.nwq.proofs.ReadLemmas.{none_read}
use Rattle.nwq.proofs.end.number_of.Goals as goal

pub returns-in-NoMemory-clause-cut : goal.returns-in-NoMemory-clause-cut
returns-in-NoMemory-clause-cut g c = λ files_tell cut.
    let contents = g.F.Files.contents c.args.files.now in
    let form = form_in c.args.words.now in
    told_nothing g.S.Sink.tells (g.S.Sink.taken c.args.out.now) (λ t t'. IsFrontOf (whole_work form) contents t contents t')
    (λ t. c.one_outcome.ensures.whole_fronts form (Err Memory) contents contents t t (whole_cut form Memory contents contents t t tt refl refl))

pub returns-in-NoMemory-clause-names : goal.returns-in-NoMemory-clause-names
returns-in-NoMemory-clause-names g c =
    let contents = g.F.Files.contents c.args.files.now in
    keeps_all (MayWrite (form_in c.args.words.now)) contents contents refl

pub returns-in-NoMemory-clause-changes : goal.returns-in-NoMemory-clause-changes
returns-in-NoMemory-clause-changes g c = λ files_tell.
    let contents = g.F.Files.contents c.args.files.now in
    keeps_all _ contents contents refl

pub returns-in-NoMemory-clause-once : goal.returns-in-NoMemory-clause-once
returns-in-NoMemory-clause-once g c = λ files_tell.
    let contents = g.F.Files.contents c.args.files.now in
    let reads = g.F.Files.reads c.args.files.now in
    subst (λ words. ReadsWhole (form_in words) (Err Memory) contents reads reads) (sym c.in-NoMemory.is) (none_read (Err Memory) contents reads)
