use Rattle.stack_check.proofs.Handing.{hands_from, hands_none}
use Rattle.stack_check.proofs.Following.{adds_calls_from, adds_calls_none, waits_from}
use Rattle.std.proofs.Common.{arith, rules, ◌≡◌, ap, subst, sym, ◌∙◌}
use Rattle.ncs_code.specs.Plain.{plain}
use Rattle.stack_shape.specs.Rule.{rule}
use Rattle.stack_lists.specs.Held.{AfterStep, shape_of}
use Rattle.stack_check.specs.declared.facts.Facts.{Facts}
use Rattle.stack_check.specs.Inference.{AllLed, IsStep, IsThere, LooksOwed, Takes, WhereQuiet, Within, leads_of}
use Rattle.stack_check.proofs.Visits.{step_sees, step_none, step_is, step_keeps, step_there}
use Rattle.stack_check.proofs.Steps.{looks_owed}
use Rattle.stack_check.proofs.visit.visit_step.Goals as goal

pub step-requires-clause-inside : goal.step-requires-clause-inside
step-requires-clause-inside c = c.requires.keeps.inside.rows c.args.at.now.from.trial c.args.at.now.from.place c.args.at.now.from.held c.requires.row

pub returns-in-None : goal.returns-in-None
returns-in-None c = record {
  sees = step_none c.rules_look_from_the_top.ensures.rules c.args.judged.now.table.now c.args.judged.now.code.now c.args.heap.now c.step.new.heap c.args.facts.now c.args.at.now.from.trial
      c.args.at.now.from.place c.args.at.now.from.held (plain c.args.at.now.op.now) c.requires.keeps c.requires.row c.requires.op c.requires.one
      (subst (λ o. AfterStep c.args.heap.now c.step.new.heap o (rule c.args.judged.now.table.now (plain c.args.at.now.op.now) (shape_of c.args.heap.now c.args.at.now.from.held)))
      c.in-None.is c.in_ok-step.ensures.after);
  waits = tt;
  few = adds_calls_none c.args.todo.now 2;
  hands = hands_none c.args.facts.now c.args.todo.now;
}

pub see-requires-clause-keeps : goal.see-requires-clause-keeps
see-requires-clause-keeps c =
    step_keeps c.args.judged.now.table.now c.args.judged.now.code.now c.args.heap.now c.step.new.heap c.args.facts.now c.in-Some.after
    (rule c.args.judged.now.table.now (plain c.args.at.now.op.now) (shape_of c.args.heap.now c.args.at.now.from.held)) c.requires.keeps
    (subst (λ o. AfterStep c.args.heap.now c.step.new.heap o (rule c.args.judged.now.table.now (plain c.args.at.now.op.now) (shape_of c.args.heap.now c.args.at.now.from.held))) c.in-Some.is
    c.in_ok-step.ensures.after)

pub see-requires-clause-looks : goal.see-requires-clause-looks
see-requires-clause-looks c =
    subst (λ r. IsThere (shape_of c.step.new.heap c.args.at.now.from.held) r) (sym c.reach_of-reach.ensures.reach)
    (step_there c.rules_look_no_deeper.ensures.there c.args.judged.now.table.now c.args.judged.now.code.now c.args.heap.now c.step.new.heap c.args.facts.now c.args.at.now.from.trial
    c.args.at.now.from.place c.args.at.now.from.held
    c.in-Some.after (plain c.args.at.now.op.now) c.requires.keeps c.requires.row
    (subst (λ o. AfterStep c.args.heap.now c.step.new.heap o (rule c.args.judged.now.table.now (plain c.args.at.now.op.now) (shape_of c.args.heap.now c.args.at.now.from.held))) c.in-Some.is
    c.in_ok-step.ensures.after))

pub see-requires-clause-owed : goal.see-requires-clause-owed
see-requires-clause-owed c =
    subst (λ r. LooksOwed c.args.judged.now.table.now c.args.judged.now.code.now c.step.new.heap c.args.facts.now c.args.at.now.from.trial c.args.at.now.from.place r)
    (sym c.reach_of-reach.ensures.reach)
    (looks_owed c.rules_look_no_deeper.ensures.there c.args.judged.now.table.now c.args.judged.now.code.now c.step.new.heap c.args.facts.now c.args.at.now.from.trial c.args.at.now.from.place
    (plain c.args.at.now.op.now) c.requires.op c.requires.one)

pub lead-requires-clause-step : goal.lead-requires-clause-step
lead-requires-clause-step c =
    let w = c.in_ok-see-in-Some.ensures.within (search rules) in
    subst (λ (f : Facts). IsStep c.args.judged.now.table.now c.args.judged.now.code.now c.step.new.heap f c.args.at.now.from.trial c.args.at.now.from.place c.args.at.now.from.held
    (plain c.args.at.now.op.now) c.in-Some.after) (sym w.0)
    (step_is c.rules_look_from_the_top.ensures.rules c.rules_look_no_deeper.ensures.deep c.args.judged.now.table.now c.args.judged.now.code.now c.args.heap.now c.step.new.heap
    c.args.facts.now c.args.at.now.from.trial
    c.args.at.now.from.place c.args.at.now.from.held c.in-Some.after (plain c.args.at.now.op.now) c.requires.keeps c.requires.row c.requires.op c.requires.one
    (subst (λ o. AfterStep c.args.heap.now c.step.new.heap o (rule c.args.judged.now.table.now (plain c.args.at.now.op.now) (shape_of c.args.heap.now c.args.at.now.from.held))) c.in-Some.is
    c.in_ok-step.ensures.after)
    (subst (λ r. Within c.step.new.heap c.args.facts.now c.args.at.now.from.trial (shape_of c.step.new.heap c.args.at.now.from.held) r) c.reach_of-reach.ensures.reach w.1))

pub returns-in_ok-seen-in-Some : goal.returns-in_ok-seen-in-Some
returns-in_ok-seen-in-Some c =
    let w = c.in_ok-see-in-Some.ensures.within (search rules) in record {
      sees = step_sees c.rules_look_from_the_top.ensures.rules c.rules_look_no_deeper.ensures.deep c.args.judged.now.table.now c.args.judged.now.code.now c.args.heap.now c.step.new.heap
          c.args.facts.now
          c.lead.new.facts c.args.at.now.from.trial c.args.at.now.from.place c.args.at.now.from.held c.in-Some.after (plain c.args.at.now.op.now) c.leads_of-leads.result
          c.in_ok-seen-in-Some.seen c.requires.keeps c.requires.row c.requires.op c.requires.one
          (subst (λ o. AfterStep c.args.heap.now c.step.new.heap o (rule c.args.judged.now.table.now (plain c.args.at.now.op.now) (shape_of c.args.heap.now c.args.at.now.from.held))) c.in-Some.is
          c.in_ok-step.ensures.after)
          (c.leads_of-leads.ensures ∙ ap (λ next. leads_of c.args.at.now.from.place next (plain c.args.at.now.op.now)) c.requires.next)
          (subst (λ r. Within c.step.new.heap c.args.facts.now c.args.at.now.from.trial (shape_of c.step.new.heap c.args.at.now.from.held) r) c.reach_of-reach.ensures.reach w.1)
          c.in_ok-seen-in-Some.ensures.keeps
          (subst (λ (f : Facts). WhereQuiet c.in_ok-seen-in-Some.seen ((c.lead.new.facts ≡ f)
          × AllLed c.step.new.heap f c.args.at.now.from.trial c.leads_of-leads.result (shape_of c.step.new.heap c.in-Some.after))) w.0 c.in_ok-seen-in-Some.ensures.quiet)
          (subst (λ (f : Facts). Takes f c.lead.new.facts c.in_ok-seen-in-Some.seen) w.0 c.in_ok-seen-in-Some.ensures.takes);
      waits = waits_from c.args.todo.now c.see.new.todo c.lead.new.todo c.in_ok-seen-in-Some.seen (c.in_ok-see-in-Some.ensures.same (search rules)) c.in_ok-seen-in-Some.ensures.waits;
      few = adds_calls_from c.args.todo.now c.see.new.todo c.lead.new.todo 2 2 (c.in_ok-see-in-Some.ensures.same (search rules)) c.in_ok-seen-in-Some.ensures.few
          (omega arith);
      hands = hands_from c.args.facts.now c.see.new.facts c.lead.new.facts c.args.todo.now c.see.new.todo c.lead.new.todo w.0
          (c.in_ok-see-in-Some.ensures.same (search rules)) c.in_ok-seen-in-Some.ensures.hands;
    }
