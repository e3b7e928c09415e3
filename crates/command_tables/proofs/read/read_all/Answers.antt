use Rattle.std.proofs.Common.{◌++◌, map, refl, sym, ap, ◌∙◌}
use Rattle.command_tables.proofs.NameLemmas.{next_named, next_new}
use Rattle.command_tables.proofs.ReadLemmas.{tables_begin, tables_go_on, tables_stop, tables_done}
use Rattle.command_tables.proofs.CountLemmas.{reads_begin, reads_go_on, reads_stop, reads_done}
use Rattle.command_tables.proofs.read.read_all.Goals as goal

pub add_table-requires-clause-name : goal.add_table-requires-clause-name
add_table-requires-clause-name g c =
    next_named c.args.names.now c.loop-name.tables c.in-Some.name.now c.in-Some.others.now c.requires.names
    (ap (λ xs. map (λ t. t.name) c.loop-name.tables ++ xs) (sym c.in-Some.ensures.cases.0) ∙ c.loop-name.invariant.so_far.all)

pub add_table-requires-clause-new_name : goal.add_table-requires-clause-new_name
add_table-requires-clause-new_name g c =
    next_new c.args.names.now c.loop-name.tables c.in-Some.name.now c.in-Some.others.now c.requires.names
    (ap (λ xs. map (λ t. t.name) c.loop-name.tables ++ xs) (sym c.in-Some.ensures.cases.0) ∙ c.loop-name.invariant.so_far.all)

pub returns-in-Err-clause-does : goal.returns-in-Err-clause-does
returns-in-Err-clause-does g c =
    tables_stop g.F.Files.tells g.S.Sink.tells (g.F.Files.contents c.args.files.now) (g.S.Sink.taken c.args.out.now) c.args.names.now
    c.loop-name.rest.now c.in-Some.others.now c.in-Some.name.now c.loop-name.tables (g.F.Files.contents c.loop-name.files)
    (g.S.Sink.taken c.loop-name.out) c.in-Err.status (g.F.Files.contents c.add_table.new.files) (g.S.Sink.taken c.add_table.new.out)
    c.loop-name.invariant.so_far c.in-Some.ensures.cases.0 c.in-Err.ensures.does

pub loop-name-init : goal.loop-name-init
loop-name-init g c = record {
  so_far = tables_begin g.F.Files.tells g.S.Sink.tells (g.F.Files.contents c.args.files.now) (g.S.Sink.taken c.args.out.now) c.args.names.now
      c.new-tables.result c.new-tables.ensures.empty;
  counts = refl;
  same = refl;
  reads = reads_begin c.args.names.now (g.F.Files.reads c.args.files.now);
}

pub loop-name-preserved : goal.loop-name-preserved
loop-name-preserved g c = record {
  so_far = tables_go_on g.F.Files.tells g.S.Sink.tells (g.F.Files.contents c.args.files.now) (g.S.Sink.taken c.args.out.now) c.args.names.now
      c.loop-name.rest.now c.in-Some.others.now c.in-Some.name.now c.loop-name.tables (g.F.Files.contents c.loop-name.files)
      (g.S.Sink.taken c.loop-name.out) c.add_table.new.tables (g.F.Files.contents c.add_table.new.files) (g.S.Sink.taken c.add_table.new.out)
      c.loop-name.invariant.so_far c.in-Some.ensures.cases.0 c.in-Ok.ensures.tables c.in-Ok.ensures.does;
  counts = c.in-Ok.ensures.counts ∙ c.loop-name.invariant.counts;
  same = c.in-Ok.ensures.same ∙ c.loop-name.invariant.same;
  reads = reads_go_on c.args.names.now c.loop-name.rest.now c.in-Some.others.now c.in-Some.name.now (g.F.Files.reads c.args.files.now)
      (g.F.Files.reads c.loop-name.files) (g.F.Files.reads c.add_table.new.files) c.loop-name.invariant.reads c.in-Some.ensures.cases.0 c.in-Ok.ensures.once;
}

pub returns-clause-does : goal.returns-clause-does
returns-clause-does g c =
    tables_done g.F.Files.tells g.S.Sink.tells (g.F.Files.contents c.args.files.now) (g.S.Sink.taken c.args.out.now) c.args.names.now
    c.loop-name.rest.now c.loop-name.tables (g.F.Files.contents c.loop-name.files) (g.S.Sink.taken c.loop-name.out)
    c.loop-name.invariant.so_far c.in_default.ensures.cases

pub returns-in-Err-clause-front : goal.returns-in-Err-clause-front
returns-in-Err-clause-front g c =
    reads_stop c.args.names.now c.loop-name.rest.now c.in-Some.others.now c.in-Some.name.now (g.F.Files.reads c.args.files.now)
    (g.F.Files.reads c.loop-name.files) (g.F.Files.reads c.add_table.new.files) c.loop-name.invariant.reads c.in-Some.ensures.cases.0 c.in-Err.ensures.most

pub returns-clause-once : goal.returns-clause-once
returns-clause-once g c =
    reads_done c.args.names.now c.loop-name.rest.now (g.F.Files.reads c.args.files.now) (g.F.Files.reads c.loop-name.files) c.loop-name.invariant.reads
    c.in_default.ensures.cases
