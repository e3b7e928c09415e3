use Rattle.std.proofs.Common.{◌≡◌, IsTrue, subst, sym}
use Rattle.command_work.specs.Counts.{Counted, KeepsBut, Tallies}
use Rattle.command_work.specs.Work.{Does, IsCut, ending}
use Rattle.nwq_top.specs.Changes.{MayChange}
use Rattle.nwq_top.specs.Command.{whole_work}
use Rattle.nwq_top.specs.Cuts.{IsFrontOf}
use Rattle.nwq_top.specs.Endings.{ComesOf}
use Rattle.nwq_top.specs.Meaning.{MeansWhole}
use Rattle.nwq_top.specs.Program.{status_number, status_numbered}
use Rattle.telling_sink.specs.Told.{Told}
use Rattle.nwq.specs.Ending.{EndsWanting, form_in}
use Rattle.nwq_top.specs.Reads.{ReadsWhole}
use Rattle.nwq.proofs.end.end_of.Goals as goal

pub returns-clause-number : goal.returns-clause-number
returns-clause-number g c =
    subst (λ number. status_number (status_numbered number) ≡ number) (sym c.told.ensures.number) c.number_of-number.ensures.number

pub returns-clause-does : goal.returns-clause-does
returns-clause-does g c =
    let before = g.F.Files.contents c.args.files.now in
    let after = g.F.Files.contents c.number_of-number.new.files in
    let form = form_in c.args.words in
    subst
    (λ number. IsTrue g.F.Files.tells → Told g.S.Sink.tells (g.S.Sink.taken c.args.out.now.inner) (g.S.Sink.taken c.number_of-number.new.out.inner)
    (λ t t'. Does (whole_work form) before t (ending (status_numbered number)) after t'))
    (sym c.told.ensures.number) c.number_of-number.ensures.does

pub returns-clause-means : goal.returns-clause-means
returns-clause-means g c =
    let before = g.F.Files.contents c.args.files.now in
    let after = g.F.Files.contents c.number_of-number.new.files in
    let form = form_in c.args.words in
    subst
    (λ number. IsTrue g.F.Files.tells → (IsCut (ending (status_numbered number)) → ⊥) → Told g.S.Sink.tells (g.S.Sink.taken c.args.out.now.inner) (g.S.Sink.taken c.number_of-number.new.out.inner)
    (λ t t'. MeansWhole form before t (ending (status_numbered number)) after t'))
    (sym c.told.ensures.number) c.number_of-number.ensures.means

pub returns-clause-cut : goal.returns-clause-cut
returns-clause-cut g c =
    let before = g.F.Files.contents c.args.files.now in
    let after = g.F.Files.contents c.number_of-number.new.files in
    let form = form_in c.args.words in
    subst
    (λ number. IsTrue g.F.Files.tells → IsCut (ending (status_numbered number)) → Told g.S.Sink.tells (g.S.Sink.taken c.args.out.now.inner) (g.S.Sink.taken c.number_of-number.new.out.inner)
    (λ t t'. IsFrontOf (whole_work form) before t after t'))
    (sym c.told.ensures.number) c.number_of-number.ensures.cut

pub returns-clause-counts : goal.returns-clause-counts
returns-clause-counts g c =
    subst
    (λ number. Tallies (ending (status_numbered number)) (Counted (g.F.Files.counts c.args.files.now) (g.S.Sink.faults c.args.out.now.inner))
    (Counted (g.F.Files.counts c.number_of-number.new.files) (g.S.Sink.faults c.number_of-number.new.out.inner)))
    (sym c.told.ensures.number) c.number_of-number.ensures.counts

pub returns-clause-changes : goal.returns-clause-changes
returns-clause-changes g c =
    let before = g.F.Files.contents c.args.files.now in
    let after = g.F.Files.contents c.number_of-number.new.files in
    let form = form_in c.args.words in
    subst
    (λ number. IsTrue g.F.Files.tells → KeepsBut (MayChange form before (ending (status_numbered number))) before after)
    (sym c.told.ensures.number) c.number_of-number.ensures.changes

pub returns-clause-only : goal.returns-clause-only
returns-clause-only g c =
    subst (λ number. ComesOf (form_in c.args.words) (status_numbered number)) (sym c.told.ensures.number) c.number_of-number.ensures.only

pub returns-clause-memory : goal.returns-clause-memory
returns-clause-memory g c =
    subst (λ number. EndsWanting c.args.words number) (sym c.told.ensures.number) c.number_of-number.ensures.memory

pub returns-clause-once : goal.returns-clause-once
returns-clause-once g c =
    subst
    (λ number. IsTrue g.F.Files.tells → ReadsWhole (form_in c.args.words) (ending (status_numbered number)) (g.F.Files.contents c.args.files.now) (g.F.Files.reads c.args.files.now)
    (g.F.Files.reads c.number_of-number.new.files))
    (sym c.told.ensures.number) c.number_of-number.ensures.once
