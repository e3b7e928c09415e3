use Rattle.std.proofs.Common.{sym, ap, ◌∙◌}
use Rattle.delay_agenda.specs.Queues.{numbered}
use Rattle.delay_agenda.proofs.Rows.{queue_at_is, cut_is, kept_is}
use Rattle.delay_agenda.proofs.queues.take_at.Goals as goal

pub returns-then-is_empty-clause-entry : goal.returns-then-is_empty-clause-entry
returns-then-is_empty-clause-entry g c =
    c.take-entry.ensures.entry
    ∙ sym (ap (λ t. numbered c.args.number t) (queue_at_is c.args.due c.args.queues.now.entries c.in-Some.queue.now (sym c.in-Some.ensures.value)))

pub returns-then-is_empty-clause-left : goal.returns-then-is_empty-clause-left
returns-then-is_empty-clause-left g c =
    let new = c.take-entry.new.self in
    (cut_is c.args.due c.args.number c.args.queues.now.entries (c.get_mut.follows.lender new).entries c.remove.new.self.entries c.in-Some.queue.now new
    c.requires.queues (sym c.in-Some.ensures.value) c.take-entry.ensures.left c.if-is_empty.ensures.test (c.get_mut.follows.holds new).0 c.remove.ensures.entries).0

pub returns-then-is_empty-clause-queues : goal.returns-then-is_empty-clause-queues
returns-then-is_empty-clause-queues g c =
    let new = c.take-entry.new.self in
    (cut_is c.args.due c.args.number c.args.queues.now.entries (c.get_mut.follows.lender new).entries c.remove.new.self.entries c.in-Some.queue.now new
    c.requires.queues (sym c.in-Some.ensures.value) c.take-entry.ensures.left c.if-is_empty.ensures.test (c.get_mut.follows.holds new).0 c.remove.ensures.entries).1

pub returns-else-is_empty-clause-entry : goal.returns-else-is_empty-clause-entry
returns-else-is_empty-clause-entry g c =
    c.take-entry.ensures.entry
    ∙ sym (ap (λ t. numbered c.args.number t) (queue_at_is c.args.due c.args.queues.now.entries c.in-Some.queue.now (sym c.in-Some.ensures.value)))

pub returns-else-is_empty-clause-left : goal.returns-else-is_empty-clause-left
returns-else-is_empty-clause-left g c =
    let new = c.take-entry.new.self in
    (kept_is c.args.due c.args.number c.args.queues.now.entries (c.get_mut.follows.lender new).entries c.in-Some.queue.now new c.requires.queues
    (sym c.in-Some.ensures.value) c.take-entry.ensures.left c.if-is_empty.ensures.test (c.get_mut.follows.holds new).0).0

pub returns-else-is_empty-clause-queues : goal.returns-else-is_empty-clause-queues
returns-else-is_empty-clause-queues g c =
    let new = c.take-entry.new.self in
    (kept_is c.args.due c.args.number c.args.queues.now.entries (c.get_mut.follows.lender new).entries c.in-Some.queue.now new c.requires.queues
    (sym c.in-Some.ensures.value) c.take-entry.ensures.left c.if-is_empty.ensures.test (c.get_mut.follows.holds new).0).1
