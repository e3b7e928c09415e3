use Rattle.std.proofs.Common.{sym, ap, subst, ◌∙◌, arith}
use Rattle.std.proofs.lemmas.Result.{IfOk-from_err}
use Rattle.delay_agenda.specs.Order.{AreDistinct}
use Rattle.delay_agenda.specs.Queues.{put_all}
use Rattle.delay_agenda.proofs.inbox.empty_inbox.Goals as goal

pub loop-entry-preserved : goal.loop-entry-preserved
loop-entry-preserved g c =
    let moved = c.in_ok-move_in.ensures in
    let popped = c.in-Some.ensures in
    record {
      entries = moved.entries ∙ ap (λ xs. put_all xs c.loop-entry.sorted) (sym popped.items) ∙ c.loop-entry.invariant.entries;
      room = omega (arith, c.loop-entry.invariant.room, moved.count, moved.capacity, popped.len, popped.capacity);
    }

pub loop-entry-smaller : goal.loop-entry-smaller
loop-entry-smaller g c = omega (arith, c.in_ok-move_in.ensures.count, c.in-Some.ensures.len)

pub returns-in_err-move_in : goal.returns-in_err-move_in
returns-in_err-move_in g c =
    let moved = c.in_err-move_in.ensures in
    let popped = c.in-Some.ensures in
    record {
      empty = IfOk-from_err c.from_residual.result _ c.from_residual.ensures.0;
      entries = moved.entries ∙ ap (λ xs. put_all xs c.loop-entry.sorted) (sym popped.items) ∙ c.loop-entry.invariant.entries;
      room = omega (arith, c.loop-entry.invariant.room, moved.bound, moved.capacity, popped.len, popped.capacity);
    }

pub move_in-requires : goal.move_in-requires
move_in-requires g c = record {
  distinct = subst AreDistinct (sym (ap (λ xs. put_all xs c.loop-entry.sorted) (sym c.in-Some.ensures.items) ∙ c.loop-entry.invariant.entries)) c.requires.distinct;
  room = omega (arith, c.in-Some.ensures.len, c.in-Some.ensures.capacity, c.loop-entry.inbox.ok.1);
}
