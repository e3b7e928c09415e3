use Rattle.std.proofs.Common.{subst}
use Rattle.delay_agenda.specs.Queues.{in_row, HasEntryLess}
use Rattle.delay_agenda.proofs.Index.{indexed_put, back_again}
use Rattle.delay_agenda.proofs.indexed.put_indexed.Goals as goal

pub returns-in-Ok-put_in-clause-indexed : goal.returns-in-Ok-put_in-clause-indexed
returns-in-Ok-put_in-clause-indexed g c =
    indexed_put c.args.entry (in_row c.args.queues.now.entries)
    (in_row c.put_in.new.queues.entries) c.args.index.now c.list_entry.new.index c.requires.indexed c.requires.new c.in-Ok.ensures.listed c.in-Ok-put_in.ensures.ok

pub returns-in-Err-put_in-clause-indexed : goal.returns-in-Err-put_in-clause-indexed
returns-in-Err-put_in-clause-indexed g c =
    back_again c.args.entry c.args.index.now c.list_entry.new.index c.forget_entry.new.index
    (in_row c.args.queues.now.entries)
    (in_row c.put_in.new.queues.entries) c.requires.indexed c.requires.new c.in-Ok.ensures.listed
    (subst (λ e. HasEntryLess e c.list_entry.new.index c.forget_entry.new.index) c.in-Err-put_in.ensures.back c.forget_entry.ensures.forgotten) c.in-Err-put_in.ensures.err
