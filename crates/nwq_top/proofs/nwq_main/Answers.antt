use Rattle.std.proofs.Common.{map, rules, string_bytes}
use Rattle.hook_table.specs.InHooks.{known_by}
use Rattle.world_core.specs.Calls.{cells_of}
use Rattle.command_work.specs.Counts.{KeepsBut}
use Rattle.command_work.specs.Work.{Does, ending}
use Rattle.command_words.specs.Words.{form_of}
use Rattle.nwq_top.specs.Changes.{MayChange}
use Rattle.nwq_top.specs.Command.{work_of}
use Rattle.nwq_top.specs.Cuts.{IsFrontOf}
use Rattle.nwq_top.specs.Meaning.{Means}
use Rattle.telling_sink.specs.ToldLemmas.{told_follows, told_so}
use Rattle.nwq_top.proofs.nwq_main.Goals as goal

pub returns-clause-means : goal.returns-clause-means
returns-clause-means g c = λ files_tell whole.
    let cells = cells_of (known_by c.args.hooks.now) in
    let form = form_of (map string_bytes c.args.words.now) in
    let before = g.F.Files.contents c.args.files.now in
    let after = g.F.Files.contents c.status_told-status.new.files in
    let end = ending c.status_told-status.result.0 in
    let told =
    told_follows g.S.Sink.tells (g.S.Sink.taken c.args.out.now) (g.S.Sink.taken c.status_told-status.result.1.now)
    (λ t t'. Does (work_of cells form) before t end after t') (λ t t'. Means cells form before t end after t')
    (λ t t' does. c.work_means.ensures.means cells form before t end after t' (c.contents_are_bytes.ensures.bytes files_tell) whole does)
    (c.status_told-status.ensures.does files_tell) in
    search (rules, told)

pub returns-clause-cut : goal.returns-clause-cut
returns-clause-cut g c = λ files_tell cut.
    let cells = cells_of (known_by c.args.hooks.now) in
    let form = form_of (map string_bytes c.args.words.now) in
    let before = g.F.Files.contents c.args.files.now in
    let after = g.F.Files.contents c.status_told-status.new.files in
    let end = ending c.status_told-status.result.0 in
    let told =
    told_follows g.S.Sink.tells (g.S.Sink.taken c.args.out.now) (g.S.Sink.taken c.status_told-status.result.1.now)
    (λ t t'. Does (work_of cells form) before t end after t') (λ t t'. IsFrontOf (work_of cells form) before t after t')
    (λ t t' does. c.one_outcome.ensures.fronts cells form end before after t t' does)
    (c.status_told-status.ensures.does files_tell) in
    search (rules, told)

pub returns-clause-changes : goal.returns-clause-changes
returns-clause-changes g c = λ files_tell.
    let cells = cells_of (known_by c.args.hooks.now) in
    let form = form_of (map string_bytes c.args.words.now) in
    let before = g.F.Files.contents c.args.files.now in
    let after = g.F.Files.contents c.status_told-status.new.files in
    let end = ending c.status_told-status.result.0 in
    told_so g.S.Sink.tells (g.S.Sink.taken c.args.out.now) (g.S.Sink.taken c.status_told-status.result.1.now)
    (λ t t'. Does (work_of cells form) before t end after t') (KeepsBut (MayChange form before end) before after)
    (λ t t' does. c.names_change.ensures.change cells form end before after t t' c.status_told-status.ensures.names does)
    (c.status_told-status.ensures.does files_tell)
