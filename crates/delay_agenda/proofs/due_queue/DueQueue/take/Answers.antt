use Rattle.std.proofs.Common.{ap, ◌∙◌, sym}
use Rattle.delay_agenda.specs.Queues.{entries_of, numbered, without_number}
use Rattle.delay_agenda.proofs.DueLemmas.{entry_in, numbered_is, without_is}
use Rattle.delay_agenda.proofs.due_queue.DueQueue.take.Goals.{in-None, in-Some}
use Rattle.delay_agenda.proofs.due_queue.DueQueue.take.Goals as goal

pub returns-clause-entry : goal.returns-clause-entry
returns-clause-entry g c =
    let due = c.self.inside.due in
    let all = numbered_is due c.args.number c.self.inside.kinds.items ∙ ap (numbered c.args.number) c.self.view_is in
    elim c.match-take.branch [
      | in-None w ↦ w.result-is ∙ ap (entry_in due c.args.number) (sym w.in-None.is ∙ c.take.ensures.taken) ∙ all
      | in-Some w ↦ w.result-is ∙ ap (entry_in due c.args.number) (sym w.in-Some.is ∙ c.take.ensures.taken) ∙ all
    ]

pub returns-clause-left : goal.returns-clause-left
returns-clause-left g c =
    ap (entries_of c.self.inside.due) c.take.ensures.left
    ∙ without_is c.self.inside.due c.args.number c.self.inside.kinds.items
    ∙ ap (without_number c.args.number) c.self.view_is
