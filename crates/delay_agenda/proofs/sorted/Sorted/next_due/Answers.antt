use Rattle.delay_agenda.proofs.LineLemmas.{due_none, due_some}
use Rattle.delay_agenda.proofs.sorted.Sorted.next_due.Goals as goal

pub returns-in-None : goal.returns-in-None
returns-in-None g c = record { due = due_none c.args.self.now c.in-None.ensures.first }

pub returns-in-Some : goal.returns-in-Some
returns-in-Some g c = record { due = due_some c.in-Some.due c.in-Some.field-0-1 c.args.self.now c.in-Some.ensures.first }
