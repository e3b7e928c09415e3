use Rattle.std.proofs.Common.{subst}
use Rattle.command_work.specs.Counts.{Counted, Tallies}
use Rattle.command_work.specs.Parts.{then_ok}
use Rattle.command_files.specs.Codes.{code_in}
use Rattle.command_files.specs.Checks.{checked_in, loaded_in, plain_checked_answer}
use Rattle.command_files.proofs.load.load_checked.Goals as goal

pub returns-in-Ok-clause-does : goal.returns-in-Ok-clause-does
unfolding loaded_in
returns-in-Ok-clause-does g c = λ tells d.
    then_ok (code_in c.args.name.now c.args.bytes.items) (checked_in c.args.table.now c.args.name.now) c.in-Ok.code d d d
    (g.S.Sink.taken c.args.out.now) (g.S.Sink.taken c.code_of_bytes.new.out) (g.S.Sink.taken c.check_code.new.out) (plain_checked_answer c.check_code.result)
    (c.in-Ok.ensures.does tells d) (c.check_code.ensures.does tells d)

pub returns-in-Ok-clause-counts : goal.returns-in-Ok-clause-counts
returns-in-Ok-clause-counts g c = λ counts.
    subst (λ before. Tallies c.check_code.result before (Counted counts (g.S.Sink.faults c.check_code.new.out)))
    (c.in-Ok.ensures.counts counts) (c.check_code.ensures.counts counts)
