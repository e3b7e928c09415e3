use Rattle.std.proofs.Common.{ap}
use Rattle.delay_agenda.specs.Waiting.{AgendaView}
use Rattle.delay_agenda.proofs.Kept.{due_inbox, due_queues}
use Rattle.delay_agenda.proofs.agenda.Agenda.next_due.Goals as goal

pub returns-in-Some : goal.returns-in-Some
returns-in-Some g c = record {
  due =
      due_inbox c.in-Some.at c.self.inside.next c.self.inside.inbox.items c.self.inside.sorted c.args.self.now.waiting c.index.result.now
      (ap (λ (v : AgendaView _). v.waiting) c.self.view_is) c.in-Some.ensures.first c.index.ensures;
}

pub returns-in-None : goal.returns-in-None
returns-in-None g c = record {
  due =
      due_queues c.self.inside.next c.self.inside.inbox.items c.self.inside.sorted c.args.self.now.waiting c.next_due.result
      (ap (λ (v : AgendaView _). v.waiting) c.self.view_is) c.in-None.ensures.first c.next_due.ensures.due;
}
