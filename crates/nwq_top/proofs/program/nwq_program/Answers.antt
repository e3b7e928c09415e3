use Rattle.std.proofs.Common.{List, String, Global, map, drop, string_bytes, sym, subst}
use Rattle.hook_table.specs.InHooks.{known_by}
use Rattle.world_core.specs.Calls.{cells_of}
use Rattle.command_work.specs.Counts.{KeepsBut}
use Rattle.command_work.specs.Work.{ending}
use Rattle.command_words.specs.Words.{form_of}
use Rattle.nwq_top.specs.Command.{MayWrite}
use Rattle.nwq_top.specs.Program.{status_numbered}
use Rattle.nwq_top.proofs.Meaning.{same_meaning}
use Rattle.nwq_top.proofs.WordLemmas.{same_work}
use Rattle.nwq_top.proofs.ReadLemmas.{same_reads}
use Rattle.nwq_top.proofs.program.nwq_program.Goals as goal

pub returns-clause-names : goal.returns-clause-names
returns-clause-names g c =
    subst (λ (words : List (String Global)). KeepsBut (MayWrite (form_of (map string_bytes words))) (g.F.Files.contents c.args.files.now) (g.F.Files.contents c.status_of_words-status.new.files))
    c.after_name.ensures c.status_of_words-status.ensures.names

pub returns-clause-does : goal.returns-clause-does
returns-clause-does g c = λ files_tell sink_tells.
    same_work (cells_of (known_by c.args.hooks.now)) c.after_name.result.now (drop 1 c.args.all.now) c.status_of_words-status.result
    (status_numbered c.number_of.result) (g.F.Files.contents c.args.files.now) (g.F.Files.contents c.status_of_words-status.new.files)
    (g.S.Sink.taken c.args.out.now) (g.S.Sink.taken c.status_of_words-status.new.out) c.after_name.ensures (sym c.number_of.ensures.status)
    (c.status_of_words-status.ensures.does files_tell sink_tells)

pub returns-clause-means : goal.returns-clause-means
returns-clause-means g c = λ files_tell sink_tells.
    same_meaning (cells_of (known_by c.args.hooks.now)) c.after_name.result.now (drop 1 c.args.all.now) c.status_of_words-status.result
    (status_numbered c.number_of.result) (g.F.Files.contents c.args.files.now) (g.F.Files.contents c.status_of_words-status.new.files)
    (g.S.Sink.taken c.args.out.now) (g.S.Sink.taken c.status_of_words-status.new.out) c.after_name.ensures (sym c.number_of.ensures.status)
    (λ whole. c.work_means.ensures.means (cells_of (known_by c.args.hooks.now)) (form_of (map string_bytes c.after_name.result.now))
    (g.F.Files.contents c.args.files.now) (g.S.Sink.taken c.args.out.now) (ending c.status_of_words-status.result)
    (g.F.Files.contents c.status_of_words-status.new.files) (g.S.Sink.taken c.status_of_words-status.new.out)
    (c.contents_are_bytes.ensures.bytes files_tell) whole (c.status_of_words-status.ensures.does files_tell sink_tells))

pub returns-clause-once : goal.returns-clause-once
returns-clause-once g c = λ files_tell sink_tells.
    same_reads c.after_name.result.now (drop 1 c.args.all.now) c.status_of_words-status.result (status_numbered c.number_of.result) (g.F.Files.contents c.args.files.now)
    (g.F.Files.reads c.args.files.now) (g.F.Files.reads c.status_of_words-status.new.files) c.after_name.ensures (sym c.number_of.ensures.status)
    (c.status_of_words-status.ensures.once files_tell sink_tells)
