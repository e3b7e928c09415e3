use Rattle.stack_check.proofs.Handing.{hands_seen}
use Rattle.std.proofs.Common.{◌≡◌, ℕ, Some, slice_get, ◌∙◌, subst, sym}
use Rattle.stack_lists.specs.Worklist.{Worklist}
use Rattle.stack_check.specs.declared.facts.Facts.{Facts}
use Rattle.stack_check.specs.declared.facts.Trial.{Trial}
use Rattle.stack_lists.specs.Held.{shape_of}
use Rattle.stack_check.specs.Inference.{CallsOfWait, CallsWait, UnseenOwed}
use Rattle.stack_check.proofs.Following.{calls_wait, sees_few}
use Rattle.stack_check.proofs.Seeing.{see_owed, see_trial, see_within}
use Rattle.stack_check.proofs.Windows.{whole_same}
use Rattle.stack_check.proofs.see.see.Goals as goal

pub unreachable-requires : goal.unreachable-requires
unreachable-requires c =
    see_trial c.args.judged.now.table.now c.args.judged.now.code.now c.args.heap.now c.args.facts.now c.args.from.trial c.args.from.place c.args.from.held
    c.requires.keeps c.requires.row c.in-None.ensures.item

pub returns-then-has_seen_all-clause-within : goal.returns-then-has_seen_all-clause-within
returns-then-has_seen_all-clause-within c =
    let whole = c.has_seen_all.ensures.0 c.if-has_seen_all.true in
    λ e. (
      Rattle.std.proofs.Common.refl,
      see_within c.args.judged.now.table.now c.args.judged.now.code.now c.args.heap.now c.args.facts.now c.args.from.trial c.args.from.place c.args.from.held c.in-Some.trial.now c.args.reach
          c.requires.keeps c.requires.row (sym c.in-Some.ensures.item) c.requires.looks
          (whole_same c.in-Some.trial.now.unseen (shape_of c.args.heap.now c.args.from.held) c.args.reach whole.0 whole.1),
    )

pub returns-then-same_unseen-clause-within : goal.returns-then-same_unseen-clause-within
returns-then-same_unseen-clause-within c = λ e. (
  Rattle.std.proofs.Common.refl,
  see_within c.args.judged.now.table.now c.args.judged.now.code.now c.args.heap.now c.args.facts.now c.args.from.trial c.args.from.place c.args.from.held c.in-Some.trial.now c.args.reach
      c.requires.keeps c.requires.row (sym c.in-Some.ensures.item) c.requires.looks
      (sym c.unseen_after-unseen.ensures ∙ c.same_unseen.ensures.0 c.if-same_unseen.true),
)

pub narrow-requires-clause-owed : goal.narrow-requires-clause-owed
narrow-requires-clause-owed c =
    subst (λ u. UnseenOwed c.args.judged.now.table.now c.args.judged.now.code.now c.args.heap.now c.args.facts.now c.args.from.trial c.in-Some.trial.now u)
    (sym c.unseen_after-unseen.ensures)
    (see_owed c.args.judged.now.table.now c.args.judged.now.code.now c.args.heap.now c.args.facts.now c.args.from.trial c.args.from.place c.args.from.held c.in-Some.trial.now c.args.reach
    c.requires.row (sym c.in-Some.ensures.item) c.requires.owed)

pub returns-clause-again : goal.returns-clause-again
returns-clause-again c = λ e.
    calls_wait c.args.todo.now c.note_growth.new.todo c.look_again.new.todo c.args.facts.now c.args.from.trial c.in-Some.trial.now
    (sym c.in-Some.ensures.item) c.in_ok-note_growth-in-Some.ensures.calls c.in_ok-look_again-in-Some.ensures

pub returns-clause-few : goal.returns-clause-few
returns-clause-few c =
    sees_few c.args.todo.now c.note_growth.new.todo c.look_again.new.todo c.in-Some.trial.now.entry c.in_ok-note_growth-in-Some.ensures.waits
    c.in_ok-note_growth-in-Some.ensures.calls c.in_ok-look_again-in-Some.ensures

some_is : {A : Type 0} (a b : A) → Some a ≡ Some b → a ≡ b
some_is a b h = cc

wait_of : (a b : Worklist) (facts : Facts) (number : ℕ) (trial : Trial) → slice_get facts.trials number ≡ Some trial → CallsOfWait a b facts number
    → CallsWait a b trial.entry
wait_of a b facts number trial h k = subst (λ (t : Trial). CallsWait a b t.entry) (some_is k.trial trial (sym k.has ∙ h)) k.by

pub returns-clause-hands : goal.returns-clause-hands
returns-clause-hands c =
    hands_seen c.args.facts.now c.narrow.new.facts c.args.todo.now c.note_growth.new.todo c.look_again.new.todo c.args.from.trial
    c.in-Some.trial.now c.narrow.ensures.set (sym c.in-Some.ensures.item) c.in_ok-note_growth-in-Some.ensures.waits c.in_ok-note_growth-in-Some.ensures.calls
    c.in_ok-look_again-in-Some.ensures
    (wait_of c.args.todo.now c.look_again.new.todo c.args.facts.now c.args.from.trial c.in-Some.trial.now (sym c.in-Some.ensures.item)
    (calls_wait c.args.todo.now c.note_growth.new.todo c.look_again.new.todo c.args.facts.now c.args.from.trial c.in-Some.trial.now
    (sym c.in-Some.ensures.item) c.in_ok-note_growth-in-Some.ensures.calls c.in_ok-look_again-in-Some.ensures))
