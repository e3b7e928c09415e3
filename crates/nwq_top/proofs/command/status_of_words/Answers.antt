use Rattle.std.proofs.Common.{map, string_bytes}
use Rattle.command_words.specs.Words.{form_of}
use Rattle.nwq_top.proofs.ReadLemmas.{stop_reads}
use Rattle.nwq_top.proofs.command.status_of_words.Goals as goal

pub returns-in-Err-clause-once : goal.returns-in-Err-clause-once
returns-in-Err-clause-once g c = λ files_tell sink_tells.
    stop_reads c.in-Err.status _ _ (form_of (map string_bytes c.args.words.now)) (g.F.Files.contents c.args.files.now) (g.F.Files.reads c.args.files.now)
    (g.F.Files.reads c.command.new.files) c.in-Err.ensures.counts (c.in-Err.ensures.once files_tell sink_tells)
