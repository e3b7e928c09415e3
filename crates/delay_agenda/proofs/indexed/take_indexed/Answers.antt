use Rattle.delay_agenda.specs.Queues.{in_row}
use Rattle.delay_agenda.proofs.Index.{indexed_taken}
use Rattle.delay_agenda.proofs.indexed.take_indexed.Goals as goal

pub returns-in-Some-clause-indexed : goal.returns-in-Some-clause-indexed
returns-in-Some-clause-indexed g c =
    indexed_taken c.in-Some.entry (in_row c.args.queues.now.entries)
    (in_row c.take_first.new.queues.entries) c.args.index.now c.forget_entry.new.index c.requires.indexed c.forget_entry.ensures.forgotten
    c.in-Some.ensures.entry c.in-Some.ensures.left
