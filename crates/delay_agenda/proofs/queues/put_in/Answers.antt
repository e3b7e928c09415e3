use Rattle.std.proofs.Common.{refl, sym}
use Rattle.delay_agenda.proofs.Rows.{put_result, queue_found, new_found}
use Rattle.delay_agenda.proofs.queues.put_in.Goals as goal

pub put-requires : goal.put-requires
put-requires g c = record {
  queue = queue_found c.args.entry.due c.args.queues.now.entries c.in-Some.queue.now c.requires.queues (sym c.in-Some.ensures.value);
  new = new_found c.args.entry.number c.args.entry.due c.args.queues.now.entries c.in-Some.queue.now c.requires.new (sym c.in-Some.ensures.value);
}

pub returns-in-Some-clause-ok : goal.returns-in-Some-clause-ok
returns-in-Some-clause-ok g c =
    (put_result c.put.result c.args.entry.due c.args.queues.now.entries (c.get_mut.follows.lender c.put.new.self).entries
    c.in-Some.queue.now c.put.new.self c.args.entry (c.get_mut.follows.holds c.put.new.self).0
    c.requires.queues refl (sym c.in-Some.ensures.value) c.put.ensures.ok c.put.ensures.err).0

pub returns-in-Some-clause-err : goal.returns-in-Some-clause-err
returns-in-Some-clause-err g c =
    (put_result c.put.result c.args.entry.due c.args.queues.now.entries (c.get_mut.follows.lender c.put.new.self).entries
    c.in-Some.queue.now c.put.new.self c.args.entry (c.get_mut.follows.holds c.put.new.self).0
    c.requires.queues refl (sym c.in-Some.ensures.value) c.put.ensures.ok c.put.ensures.err).1

pub returns-in-Some-clause-queues : goal.returns-in-Some-clause-queues
returns-in-Some-clause-queues g c =
    (put_result c.put.result c.args.entry.due c.args.queues.now.entries (c.get_mut.follows.lender c.put.new.self).entries
    c.in-Some.queue.now c.put.new.self c.args.entry (c.get_mut.follows.holds c.put.new.self).0
    c.requires.queues refl (sym c.in-Some.ensures.value) c.put.ensures.ok c.put.ensures.err).2
