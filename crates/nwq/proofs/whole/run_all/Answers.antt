use Rattle.std.proofs.Common.{rules}
use Rattle.command_work.specs.Counts.{KeepsBut}
use Rattle.command_work.specs.Work.{Does, ending}
use Rattle.command_words.specs.Words.{form_of}
use Rattle.nwq_top.specs.Changes.{MayChange}
use Rattle.nwq_top.specs.Command.{whole_work}
use Rattle.nwq_top.specs.Cuts.{IsFrontOf}
use Rattle.nwq_top.specs.Meaning.{MeansWhole}
use Rattle.nwq_top.specs.Program.{status_numbered, words_of}
use Rattle.telling_sink.specs.ToldLemmas.{told_follows, told_so}
use Rattle.nwq.proofs.whole.run_all.Goals as goal

pub returns-clause-means : goal.returns-clause-means
returns-clause-means g c = λ files_tell whole.
    let form = form_of (words_of c.args.all.now) in
    let before = g.F.Files.contents c.args.files.now in
    let after = g.F.Files.contents c.run_told-number.new.files in
    let end = ending (status_numbered c.run_told-number.result.0) in
    let told =
    told_follows g.S.Sink.tells (g.S.Sink.taken c.args.out.now) (g.S.Sink.taken c.run_told-number.result.1.now)
    (λ t t'. Does (whole_work form) before t end after t') (λ t t'. MeansWhole form before t end after t')
    (λ t t' does. c.whole_means.ensures.means form before t end after t' (c.contents_are_bytes.ensures.bytes files_tell) whole does)
    (c.run_told-number.ensures.does files_tell) in
    search (rules, told)

pub returns-clause-cut : goal.returns-clause-cut
returns-clause-cut g c = λ files_tell cut.
    let form = form_of (words_of c.args.all.now) in
    let before = g.F.Files.contents c.args.files.now in
    let after = g.F.Files.contents c.run_told-number.new.files in
    let end = ending (status_numbered c.run_told-number.result.0) in
    let told =
    told_follows g.S.Sink.tells (g.S.Sink.taken c.args.out.now) (g.S.Sink.taken c.run_told-number.result.1.now)
    (λ t t'. Does (whole_work form) before t end after t') (λ t t'. IsFrontOf (whole_work form) before t after t')
    (λ t t' does. c.one_outcome.ensures.whole_fronts form end before after t t' does)
    (c.run_told-number.ensures.does files_tell) in
    search (rules, told)

pub returns-clause-changes : goal.returns-clause-changes
returns-clause-changes g c = λ files_tell.
    let form = form_of (words_of c.args.all.now) in
    let before = g.F.Files.contents c.args.files.now in
    let after = g.F.Files.contents c.run_told-number.new.files in
    let end = ending (status_numbered c.run_told-number.result.0) in
    told_so g.S.Sink.tells (g.S.Sink.taken c.args.out.now) (g.S.Sink.taken c.run_told-number.result.1.now)
    (λ t t'. Does (whole_work form) before t end after t') (KeepsBut (MayChange form before end) before after)
    (λ t t' does. c.names_change.ensures.whole form end before after t t' c.run_told-number.ensures.names does)
    (c.run_told-number.ensures.does files_tell)
