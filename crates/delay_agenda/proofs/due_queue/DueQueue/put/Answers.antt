use Rattle.std.proofs.Common.{subst, sym, ap, ◌∙◌}
use Rattle.delay_agenda.specs.Order.{put_entry, HasNone}
use Rattle.delay_agenda.specs.Queues.{IsQueue, entries_of}
use Rattle.delay_agenda.proofs.DueLemmas.{none_at, own_due, entries_put}
use Rattle.delay_agenda.proofs.due_queue.DueQueue.put.Goals.{in-Ok, in-Err}
use Rattle.delay_agenda.proofs.due_queue.DueQueue.put.Goals as goal

pub insert-requires : goal.insert-requires
insert-requires g c = record {
  new = none_at c.self.inside.due c.args.entry.number c.self.inside.kinds.items (subst (HasNone c.args.entry.number) (sym c.self.view_is) c.requires.new);
}

pub returns-clause-ok : goal.returns-clause-ok
returns-clause-ok g c =
    elim c.match-insert.branch [
      | in-Ok w ↦ rw w.result-is
          (ap (entries_of c.self.inside.due) w.in-Ok.ensures.ok
          ∙ entries_put c.self.inside.due c.args.entry.number c.args.entry.kind c.self.inside.kinds.items
          ∙ ap (put_entry (record { due = c.self.inside.due; number = c.args.entry.number; kind = c.args.entry.kind })) c.self.view_is
          ∙ ap (λ due. put_entry (record { due = due; number = c.args.entry.number; kind = c.args.entry.kind }) c.args.self.now)
          (own_due c.self.inside.due c.args.entry.due c.self.inside.kinds.items (subst (IsQueue c.args.entry.due) (sym c.self.view_is) c.requires.queue)))
      | in-Err w ↦ rw w.result-is tt
    ]
