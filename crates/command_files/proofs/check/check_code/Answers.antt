use Rattle.std.proofs.Common.{Err, ap, sym, subst}
use Rattle.stack_check.specs.Checked.{IsKeptTable, kept_table}
use Rattle.command_files.proofs.CheckLemmas.{passes_does, unstacked_does, check_cut}
use Rattle.command_files.proofs.check.check_code.Goals as goal

pub returns-in-Ok-clause-does : goal.returns-in-Ok-clause-does
returns-in-Ok-clause-does g c = λ tells d.
    passes_does c.args.table.now c.args.name.now c.args.code d c.in-Ok.checked (g.S.Sink.taken c.args.out.now) c.in-Ok.ensures.code c.in-Ok.ensures.meets

pub returns-in-Ok-clause-kept : goal.returns-in-Ok-clause-kept
returns-in-Ok-clause-kept g c =
    subst (λ ops. IsKeptTable c.args.table.now ops (kept_table c.in-Ok.checked)) (sym c.in-Ok.ensures.code)
    (record { meets = c.in-Ok.ensures.meets; stored = c.in-Ok.ensures.stored })

pub returns-in-Err-Unstacked-clause-does : goal.returns-in-Err-Unstacked-clause-does
returns-in-Err-Unstacked-clause-does g c = λ tells d.
    unstacked_does c.args.table.now c.args.name.now c.args.code d c.refuse_code.result (g.S.Sink.taken c.args.out.now) (g.S.Sink.taken c.refuse_code.new.out)
    (c.in-Err-Unstacked.ensures.unstacked (ap Err c.in-Err-Unstacked.field-0-is)) (c.refuse_code.ensures.does tells)

pub returns-in-Err-NoMemory-clause-does : goal.returns-in-Err-NoMemory-clause-does
returns-in-Err-NoMemory-clause-does g c = λ tells d. check_cut c.args.table.now c.args.name.now c.args.code d (g.S.Sink.taken c.args.out.now)
