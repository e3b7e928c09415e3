use Rattle.std.proofs.Common.{◌++◌, arith, ap, sym, ◌∙◌, length, List}
use Rattle.saved_state.specs.declared.saved.Saved.{Saved}
use Rattle.delay_agenda.specs.declared.entry.Entry.{Entry}
use Rattle.delay_agenda.specs.Waiting.{Waiting}
use Rattle.state_parts.specs.KeepingLemmas.{count_more}
use Rattle.state_parts.proofs.Keeping.{got_none}
use Rattle.state_parts.specs.PuttingLemmas.{moved_more, moved_all}
use Rattle.state_parts.proofs.agenda.entries.Goals as goal

pub loop-done-init : goal.loop-done-init
loop-done-init c = (ap (λ (l : List (Entry Saved)). l ++ c.args.agenda.waiting.entries) c.new-all.ensures.empty, ap length c.new-all.ensures.empty)

pub loop-done-preserved : goal.loop-done-preserved
loop-done-preserved c = (
  moved_more c.loop-done.all c.loop-done.agenda.waiting.entries c.push.new.self c.take.new.self.waiting.entries c.args.agenda.waiting.entries c.in-Some.next c.loop-done.invariant.0
      c.in_ok-push-in-Some.ensures.ok (sym c.take.ensures.taken ∙ c.in-Some.is) (ap (λ (w : Waiting Saved). w.entries) c.take.ensures.left),
  count_more c.loop-done.all c.push.new.self c.in-Some.next c.loop-done._done c.loop-done.invariant.1 c.in_ok-push-in-Some.ensures.ok,
)

pub returns-in-None : goal.returns-in-None
returns-in-None c = record {
  entries = moved_all c.loop-done.all c.loop-done.agenda.waiting.entries c.args.agenda.waiting.entries c.loop-done.invariant.0
      (got_none c.loop-done.agenda.waiting.entries 0 (sym c.take.ensures.taken ∙ c.in-None.is));
  few = omega (arith, c.loop-done.invariant.1, c.loop-done.auto._done-end);
}
