use Rattle.std.proofs.Common.{Ok}
use Rattle.command_tables.proofs.CountLemmas.{lists_names}
use Rattle.command_tables.proofs.list.read_list.Goals as goal

pub returns-in-Ok-names_of_text-clause-lists : goal.returns-in-Ok-names_of_text-clause-lists
returns-in-Ok-names_of_text-clause-lists g c = λ files_tell sink_tells.
    lists_names (Ok c.in-Ok-names_of_text.names) (g.F.Files.contents c.args.files.now) (g.F.Files.contents c.read_file.new.files)
    (g.S.Sink.taken c.args.out.now) (g.S.Sink.taken c.read_file.new.out) c.args.list.now c.in-Ok.bytes c.as_slice.result.now c.as_slice.ensures.items
    (c.in-Ok.ensures.does files_tell sink_tells) c.in-Ok-names_of_text.ensures.names
