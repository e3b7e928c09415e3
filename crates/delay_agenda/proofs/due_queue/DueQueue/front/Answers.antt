use Rattle.std.proofs.Common.{subst}
use Rattle.delay_agenda.specs.Queues.{IsHead}
use Rattle.delay_agenda.proofs.DueLemmas.{head_of}
use Rattle.delay_agenda.proofs.due_queue.DueQueue.front.Goals as goal

pub returns : goal.returns
returns g c = record {
  head =
      subst (IsHead c.self.inside.due c.in-Some.number) c.self.view_is
      (head_of c.self.inside.due c.in-Some.number c.in-Some.field-0-1.now c.self.inside.kinds.items c.in-Some.ensures.first);
}
