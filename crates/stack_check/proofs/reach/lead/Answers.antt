use Rattle.stack_check.proofs.Handing.{hands_then}
use Rattle.std.proofs.Common.{arith, ◌≡◌, subst, sym}
use Rattle.std.specs.Prelude.{IfOk}
use Rattle.std.proofs.lemmas.Result.{IfOk-weaker}
use Rattle.stack_lists.specs.Held.{shape_of}
use Rattle.stack_check.specs.Inference.{Adds, AllLed, HandsIn, RowIs, RowsKept, Takes, WhereQuiet}
use Rattle.stack_check.proofs.Following.{adds_two, adds_up, changed_keeps, changed_quiet, kept_then, one_led, takes_both, takes_next, two_quiet}
use Rattle.stack_check.proofs.Steps.{step_kept}
use Rattle.stack_check.proofs.reach.lead.Goals as goal

pub returns-in-One-clause-quiet : goal.returns-in-One-clause-quiet
returns-in-One-clause-quiet c =
    let shape = shape_of c.args.heap.now c.args.after in
    subst (λ lead. IfOk c.lead_to.result (λ seen. WhereQuiet seen ((c.lead_to.new.facts ≡ c.args.facts.now)
    × AllLed c.args.heap.now c.args.facts.now c.args.at.now.from.trial lead shape))) (sym c.in-One.is)
    (IfOk-weaker c.lead_to.result _ _ (λ seen q. one_led c.args.heap.now c.args.facts.now c.lead_to.new.facts c.args.at.now.from.trial c.in-One.place
    shape seen q) c.lead_to.ensures.quiet)

pub lead_to-requires-in-Quiet-clause-step : goal.lead_to-requires-in-Quiet-clause-step
lead_to-requires-in-Quiet-clause-step c = step_kept _ _ _ _ _ _ _ _ _ _ c.requires.step c.in_ok-seen-in-Two.ensures.kept

pub lead_to-requires-in-Changed-clause-step : goal.lead_to-requires-in-Changed-clause-step
lead_to-requires-in-Changed-clause-step c = step_kept _ _ _ _ _ _ _ _ _ _ c.requires.step c.in_ok-seen-in-Two.ensures.kept

pub returns-in-Quiet-clause-kept : goal.returns-in-Quiet-clause-kept
returns-in-Quiet-clause-kept c =
    IfOk-weaker c.lead_to-in-Quiet.result _ (λ seen. RowsKept c.args.facts.now c.lead_to-in-Quiet.new.facts)
    (λ seen k. kept_then _ _ _ c.in_ok-seen-in-Two.ensures.kept k) c.lead_to-in-Quiet.ensures.kept

pub returns-in-Quiet-clause-quiet : goal.returns-in-Quiet-clause-quiet
returns-in-Quiet-clause-quiet c =
    let shape = shape_of c.args.heap.now c.args.after in
    let first = subst (λ seen. WhereQuiet seen ((c.lead_to-in-Two.new.facts ≡ c.args.facts.now)
    × RowIs c.args.heap.now c.args.facts.now c.args.at.now.from.trial c.in-Two.first shape)) c.in-Quiet.is c.in_ok-seen-in-Two.ensures.quiet in
    subst (λ lead. IfOk c.lead_to-in-Quiet.result (λ seen. WhereQuiet seen ((c.lead_to-in-Quiet.new.facts ≡ c.args.facts.now)
    × AllLed c.args.heap.now c.args.facts.now c.args.at.now.from.trial lead shape))) (sym c.in-Two.is)
    (IfOk-weaker c.lead_to-in-Quiet.result _ _ (λ seen q. two_quiet c.args.heap.now c.args.facts.now c.lead_to-in-Two.new.facts c.lead_to-in-Quiet.new.facts
    c.args.at.now.from.trial c.in-Two.first c.in-Two.second shape seen first q) c.lead_to-in-Quiet.ensures.quiet)

pub returns-in_ok-seen-in-Changed-clause-keeps : goal.returns-in_ok-seen-in-Changed-clause-keeps
returns-in_ok-seen-in-Changed-clause-keeps c =
    changed_keeps _ _ _ _ c.in_ok-seen-in-Changed.seen c.after_change.result c.after_change.ensures c.in_ok-seen-in-Changed.ensures.keeps

pub returns-in_ok-seen-in-Changed-clause-kept : goal.returns-in_ok-seen-in-Changed-clause-kept
returns-in_ok-seen-in-Changed-clause-kept c = kept_then _ _ _ c.in_ok-seen-in-Two.ensures.kept c.in_ok-seen-in-Changed.ensures.kept

pub returns-in_ok-seen-in-Changed-clause-quiet : goal.returns-in_ok-seen-in-Changed-clause-quiet
returns-in_ok-seen-in-Changed-clause-quiet c = changed_quiet c.in_ok-seen-in-Changed.seen c.after_change.result _ c.after_change.ensures

pub returns-in-Quiet-clause-takes : goal.returns-in-Quiet-clause-takes
returns-in-Quiet-clause-takes c =
    let first = subst (λ seen. WhereQuiet seen ((c.lead_to-in-Two.new.facts ≡ c.args.facts.now)
    × RowIs c.args.heap.now c.args.facts.now c.args.at.now.from.trial c.in-Two.first (shape_of c.args.heap.now c.args.after))) c.in-Quiet.is c.in_ok-seen-in-Two.ensures.quiet in
    IfOk-weaker c.lead_to-in-Quiet.result _ (λ seen. Takes c.args.facts.now c.lead_to-in-Quiet.new.facts seen)
    (λ seen t. takes_next c.args.facts.now c.lead_to-in-Two.new.facts c.lead_to-in-Quiet.new.facts seen first.0 t) c.lead_to-in-Quiet.ensures.takes

pub returns-in_ok-seen-in-Changed-clause-takes : goal.returns-in_ok-seen-in-Changed-clause-takes
returns-in_ok-seen-in-Changed-clause-takes c =
    takes_both _ c.args.facts.now c.lead_to-in-Two.new.facts _ c.in_ok-seen-in-Changed.seen c.after_change.result
    (subst (λ seen. Takes c.args.facts.now c.lead_to-in-Two.new.facts seen) c.in-Changed.is c.in_ok-seen-in-Two.ensures.takes)
    c.in_ok-seen-in-Changed.ensures.takes c.in_ok-seen-in-Changed.ensures.quiet c.after_change.ensures

pub returns-in-One-clause-few : goal.returns-in-One-clause-few
returns-in-One-clause-few c =
    IfOk-weaker c.lead_to.result _ (λ seen. Adds c.args.todo.now c.lead_to.new.todo 2)
    (λ seen k. adds_up c.args.todo.now c.lead_to.new.todo 2 k (omega arith)) c.lead_to.ensures.few

pub returns-in-Bad-clause-few : goal.returns-in-Bad-clause-few
returns-in-Bad-clause-few c = adds_up c.args.todo.now c.lead_to-in-Two.new.todo 2 c.in_ok-seen-in-Two.ensures.few (omega arith)

pub returns-in-Quiet-clause-few : goal.returns-in-Quiet-clause-few
returns-in-Quiet-clause-few c =
    IfOk-weaker c.lead_to-in-Quiet.result _ (λ seen. Adds c.args.todo.now c.lead_to-in-Quiet.new.todo 2)
    (λ seen k. adds_two c.args.todo.now c.lead_to-in-Two.new.todo c.lead_to-in-Quiet.new.todo c.in_ok-seen-in-Two.ensures.few k) c.lead_to-in-Quiet.ensures.few

pub returns-in_ok-seen-in-Changed-clause-few : goal.returns-in_ok-seen-in-Changed-clause-few
returns-in_ok-seen-in-Changed-clause-few c =
    adds_two c.args.todo.now c.lead_to-in-Two.new.todo c.lead_to-in-Changed.new.todo c.in_ok-seen-in-Two.ensures.few c.in_ok-seen-in-Changed.ensures.few

pub returns-in-Quiet-clause-hands : goal.returns-in-Quiet-clause-hands
returns-in-Quiet-clause-hands c =
    IfOk-weaker c.lead_to-in-Quiet.result _ (λ seen. HandsIn c.args.judged.now.code.now c.args.facts.now c.lead_to-in-Quiet.new.facts c.args.todo.now c.lead_to-in-Quiet.new.todo)
    (λ seen k. hands_then c.args.facts.now c.lead_to-in-Two.new.facts c.lead_to-in-Quiet.new.facts c.args.todo.now c.lead_to-in-Two.new.todo
    c.lead_to-in-Quiet.new.todo c.in_ok-seen-in-Two.ensures.hands k) c.lead_to-in-Quiet.ensures.hands

pub returns-in_ok-seen-in-Changed-clause-hands : goal.returns-in_ok-seen-in-Changed-clause-hands
returns-in_ok-seen-in-Changed-clause-hands c =
    hands_then c.args.facts.now c.lead_to-in-Two.new.facts c.lead_to-in-Changed.new.facts c.args.todo.now c.lead_to-in-Two.new.todo c.lead_to-in-Changed.new.todo
    c.in_ok-seen-in-Two.ensures.hands c.in_ok-seen-in-Changed.ensures.hands
