use Rattle.std.proofs.Common.{refl}
use Rattle.delay_agenda.proofs.Rows.{put_new}
use Rattle.delay_agenda.proofs.queues.put_alone.Goals as goal

pub returns-in-Ok-insert-clause-ok : goal.returns-in-Ok-insert-clause-ok
returns-in-Ok-insert-clause-ok g c =
    rw c.in-Ok-insert.ensures.entries
    (put_new c.args.entry.due c.args.queues.now.entries c.in-Ok.queue c.args.entry c.requires.queues refl c.in-Ok.ensures.ok c.requires.new).0

pub returns-in-Ok-insert-clause-queues : goal.returns-in-Ok-insert-clause-queues
returns-in-Ok-insert-clause-queues g c =
    rw c.in-Ok-insert.ensures.entries
    (put_new c.args.entry.due c.args.queues.now.entries c.in-Ok.queue c.args.entry c.requires.queues refl c.in-Ok.ensures.ok c.requires.new).1
