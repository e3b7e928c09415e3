use Rattle.std.proofs.Common.{◌≡◌, IsTrue, subst}
use Rattle.command_work.specs.Counts.{KeepsBut}
use Rattle.command_work.specs.Work.{Does, IsCut, ending}
use Rattle.nwq_top.specs.Changes.{MayChange}
use Rattle.nwq_top.specs.Command.{MayWrite, whole_work}
use Rattle.nwq_top.specs.Cuts.{IsFrontOf}
use Rattle.nwq_top.specs.Endings.{ComesOf}
use Rattle.nwq_top.specs.Meaning.{MeansWhole}
use Rattle.nwq_top.specs.Program.{status_numbered}
use Rattle.telling_sink.specs.Told.{Told}
use Rattle.nwq_top.specs.Reads.{ReadsWhole}
use Rattle.nwq.proofs.end.run_words.Goals as goal

pub returns-clause-does : goal.returns-clause-does
returns-clause-does g c =
    let before = g.F.Files.contents c.args.files.now in
    let after = g.F.Files.contents c.run_all.new.files in
    subst
    (λ form. IsTrue g.F.Files.tells → Told g.S.Sink.tells (g.S.Sink.taken c.args.out.now) (g.S.Sink.taken c.run_all.new.out)
    (λ t t'. Does (whole_work form) before t (ending (status_numbered c.run_all.result)) after t'))
    c.as_slice.ensures.form c.run_all.ensures.does

pub returns-clause-means : goal.returns-clause-means
returns-clause-means g c =
    let before = g.F.Files.contents c.args.files.now in
    let after = g.F.Files.contents c.run_all.new.files in
    subst
    (λ form. IsTrue g.F.Files.tells → (IsCut (ending (status_numbered c.run_all.result)) → ⊥) → Told g.S.Sink.tells (g.S.Sink.taken c.args.out.now) (g.S.Sink.taken c.run_all.new.out)
    (λ t t'. MeansWhole form before t (ending (status_numbered c.run_all.result)) after t'))
    c.as_slice.ensures.form c.run_all.ensures.means

pub returns-clause-cut : goal.returns-clause-cut
returns-clause-cut g c =
    let before = g.F.Files.contents c.args.files.now in
    let after = g.F.Files.contents c.run_all.new.files in
    subst
    (λ form. IsTrue g.F.Files.tells → IsCut (ending (status_numbered c.run_all.result)) → Told g.S.Sink.tells (g.S.Sink.taken c.args.out.now) (g.S.Sink.taken c.run_all.new.out)
    (λ t t'. IsFrontOf (whole_work form) before t after t'))
    c.as_slice.ensures.form c.run_all.ensures.cut

pub returns-clause-names : goal.returns-clause-names
returns-clause-names g c =
    subst
    (λ form. KeepsBut (MayWrite form) (g.F.Files.contents c.args.files.now) (g.F.Files.contents c.run_all.new.files))
    c.as_slice.ensures.form c.run_all.ensures.names

pub returns-clause-changes : goal.returns-clause-changes
returns-clause-changes g c =
    let before = g.F.Files.contents c.args.files.now in
    let after = g.F.Files.contents c.run_all.new.files in
    subst
    (λ form. IsTrue g.F.Files.tells → KeepsBut (MayChange form before (ending (status_numbered c.run_all.result))) before after)
    c.as_slice.ensures.form c.run_all.ensures.changes

pub returns-clause-only : goal.returns-clause-only
returns-clause-only g c =
    subst (λ form. ComesOf form (status_numbered c.run_all.result)) c.as_slice.ensures.form c.run_all.ensures.only

pub returns-clause-once : goal.returns-clause-once
returns-clause-once g c =
    subst
    (λ form. IsTrue g.F.Files.tells → ReadsWhole form (ending (status_numbered c.run_all.result)) (g.F.Files.contents c.args.files.now) (g.F.Files.reads c.args.files.now)
    (g.F.Files.reads c.run_all.new.files))
    c.as_slice.ensures.form c.run_all.ensures.once
