use Rattle.std.proofs.Common.{[], subst}
use Rattle.command_work.specs.Counts.{KeepsBut}
use Rattle.command_work.specs.KeepsLemmas.{keeps_all}
use Rattle.command_words.specs.Words.{form_of}
use Rattle.nwq_top.specs.Command.{MayWrite}
use Rattle.nwq_top.specs.Program.{status_numbered, words_of}
use Rattle.nwq.proofs.EndLemmas.{none_refused, refusal_comes}
use Rattle.nwq.proofs.ReadLemmas.{whole_reads, refused_reads}
use Rattle.command_work.specs.Work.{ending}
use Rattle.nwq.proofs.whole.run_in_order.Goals as goal

pub returns-in-Err-clause-only : goal.returns-in-Err-clause-only
returns-in-Err-clause-only g c =
    refusal_comes (form_of (words_of c.args.all.now)) (status_numbered c.in-Err.number) (λ list. none_refused c.in-Err.number [] (c.in-Err.ensures.none list))
    c.in-Err.ensures.only

pub returns-in-Err-clause-names : goal.returns-in-Err-clause-names
returns-in-Err-clause-names g c =
    keeps_all (MayWrite (form_of (words_of c.args.all.now))) (g.F.Files.contents c.args.files.now) (g.F.Files.contents c.program_tables.new.files)
    c.program_tables.ensures.same

pub returns-in-Ok-clause-names : goal.returns-in-Ok-clause-names
returns-in-Ok-clause-names g c =
    subst (λ contents. KeepsBut (MayWrite (form_of (words_of c.args.all.now))) contents (g.F.Files.contents c.run_with.new.files)) c.program_tables.ensures.same
    c.run_with.ensures.names

pub returns-in-Err-clause-once : goal.returns-in-Err-clause-once
returns-in-Err-clause-once g c = λ files_tell sink_tells.
    refused_reads (form_of (words_of c.args.all.now)) (status_numbered c.in-Err.number) (g.F.Files.contents c.args.files.now) (g.F.Files.reads c.args.files.now)
    (g.F.Files.reads c.program_tables.new.files) c.in-Err.ensures.only (c.in-Err.ensures.front files_tell sink_tells)

pub returns-in-Ok-clause-once : goal.returns-in-Ok-clause-once
returns-in-Ok-clause-once g c = λ files_tell sink_tells.
    whole_reads (form_of (words_of c.args.all.now)) (ending (status_numbered c.run_with.result)) (g.F.Files.contents c.args.files.now)
    (g.F.Files.contents c.program_tables.new.files) (g.F.Files.reads c.args.files.now) (g.F.Files.reads c.program_tables.new.files)
    (g.F.Files.reads c.run_with.new.files) c.program_tables.ensures.same (c.in-Ok.ensures.once files_tell sink_tells)
    (c.run_with.ensures.once files_tell sink_tells)
