use Rattle.std.proofs.Common.{ap, subst}
use Rattle.typing_rules.specs.UnitReading.{typed_unit}
use Rattle.command_work.specs.Counts.{Counted, Tallies}
use Rattle.command_sources.specs.Scripts.{plain_script}
use Rattle.command_compile.proofs.FileLemmas.{typed_then}
use Rattle.command_compile.proofs.file.compile_script.Goals as goal

pub returns-in-Ok-clause-does : goal.returns-in-Ok-clause-does
returns-in-Ok-clause-does g c = λ told contents.
    typed_then c.args.table.now (plain_script c.args.script) (typed_unit c.in-Ok.typed.typed) c.in-Ok.typed.unit.files c.file_of.result contents
    (g.S.Sink.taken c.args.out.now) (g.S.Sink.taken c.type_script.new.out) (g.S.Sink.taken c.file_of.new.out) (c.in-Ok.ensures.does told contents)
    (ap (λ unit. unit.files) c.in-Ok.ensures.same) (c.file_of.ensures.does told contents)

pub returns-in-Ok-clause-counts : goal.returns-in-Ok-clause-counts
returns-in-Ok-clause-counts g c = λ counts.
    subst (λ before. Tallies c.file_of.result before (Counted counts (g.S.Sink.faults c.file_of.new.out)))
    (c.in-Ok.ensures.counts counts) (c.file_of.ensures.counts counts)
