use Rattle.std.proofs.Common.{Err}
use Rattle.command_work.specs.Work.{Finished}
use Rattle.command_tables.specs.Reads.{alone}
use Rattle.command_tables.proofs.CountLemmas.{listed_all, listed_part, given_all, given_part}
use Rattle.command_tables.proofs.read.read_tables.Goals as goal

pub returns-in-Ok-clause-once : goal.returns-in-Ok-clause-once
returns-in-Ok-clause-once g c = λ files_tell sink_tells.
    given_all c.read_all.result c.args.list c.in-Some.name c.in-Some.is (g.F.Files.contents c.args.files.now) (g.F.Files.reads c.args.files.now)
    (g.F.Files.reads c.read_all.new.files)
    (listed_all c.read_all.result c.in-Some.name.now (g.F.Files.contents c.args.files.now) c.in-Ok.names c.as_slice.result.now
    (g.F.Files.reads c.args.files.now) (g.F.Files.reads c.read_list.new.files) (g.F.Files.reads c.read_all.new.files) c.as_slice.ensures.items
    (c.in-Ok.ensures.lists files_tell sink_tells) c.read_list.ensures.once c.read_all.ensures.once)

pub returns-in-Ok-clause-front : goal.returns-in-Ok-clause-front
returns-in-Ok-clause-front g c = λ files_tell sink_tells.
    given_part c.read_all.result c.args.list c.in-Some.name c.in-Some.is (g.F.Files.contents c.args.files.now) (g.F.Files.reads c.args.files.now)
    (g.F.Files.reads c.read_all.new.files)
    (listed_part c.read_all.result c.in-Some.name.now (g.F.Files.contents c.args.files.now) c.in-Ok.names c.as_slice.result.now
    (g.F.Files.reads c.args.files.now) (g.F.Files.reads c.read_list.new.files) (g.F.Files.reads c.read_all.new.files) c.as_slice.ensures.items
    (c.in-Ok.ensures.lists files_tell sink_tells) c.read_list.ensures.once c.read_all.ensures.front)

pub returns-in-Err-clause-front : goal.returns-in-Err-clause-front
returns-in-Err-clause-front g c = λ files_tell sink_tells.
    given_part {A = Finished} (Err c.in-Err.status) c.args.list c.in-Some.name c.in-Some.is (g.F.Files.contents c.args.files.now) (g.F.Files.reads c.args.files.now)
    (g.F.Files.reads c.read_list.new.files) (alone c.read_list.ensures.once)
