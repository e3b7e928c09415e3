use Rattle.stack_check.proofs.Handing.{hands_then}
use Rattle.stack_check.proofs.Following.{adds_calls_then, adds_calls_up, waits_changed, waits_then}
use Rattle.std.proofs.Common.{arith, subst}
use Rattle.ncs_code.specs.Plain.{plain}
use Rattle.stack_lists.specs.Growth.{heap_same, still_in}
use Rattle.stack_check.specs.declared.seen.Seen.{Seen}
use Rattle.stack_check.specs.Inference.{SeesStep, Visited}
use Rattle.stack_check.proofs.Storing.{held_resumes, store_bad, store_changed, store_held}
use Rattle.stack_check.proofs.visit.visit_store.Goals as goal

pub resume-requires-clause-keeps : goal.resume-requires-clause-keeps
resume-requires-clause-keeps c =
    subst (λ (s : Seen). Visited c.args.judged.now.table.now c.args.judged.now.code.now c.visit_step.new.heap c.visit_step.new.facts s) c.in-Quiet.is c.in_ok-first.ensures.sees.keeps

pub resume-requires-clause-owed : goal.resume-requires-clause-owed
resume-requires-clause-owed c =
    held_resumes c.rules_look_from_the_top.ensures.stores _ _ _ _ _ _ _ _ _ _ c.requires.keeps c.requires.row c.requires.op c.requires.stores c.requires.inside
    c.in_ok-first.ensures.sees.grows

pub resume-requires-clause-inside : goal.resume-requires-clause-inside
resume-requires-clause-inside c = still_in _ _ _ c.in_ok-first.ensures.sees.grows c.requires.inside

pub resume-requires-in-Changed-clause-keeps : goal.resume-requires-in-Changed-clause-keeps
resume-requires-in-Changed-clause-keeps c =
    subst (λ (s : Seen). Visited c.args.judged.now.table.now c.args.judged.now.code.now c.visit_step.new.heap c.visit_step.new.facts s) c.in-Changed.is c.in_ok-first.ensures.sees.keeps

pub resume-requires-in-Changed-clause-owed : goal.resume-requires-in-Changed-clause-owed
resume-requires-in-Changed-clause-owed c =
    held_resumes c.rules_look_from_the_top.ensures.stores _ _ _ _ _ _ _ _ _ _ c.requires.keeps c.requires.row c.requires.op c.requires.stores c.requires.inside
    c.in_ok-first.ensures.sees.grows

pub resume-requires-in-Changed-clause-inside : goal.resume-requires-in-Changed-clause-inside
resume-requires-in-Changed-clause-inside c = still_in _ _ _ c.in_ok-first.ensures.sees.grows c.requires.inside

pub returns-in-Bad : goal.returns-in-Bad
returns-in-Bad c = record {
  sees = store_bad c.args.judged.now.table.now c.args.judged.now.code.now c.args.heap.now c.visit_step.new.heap c.args.facts.now c.visit_step.new.facts c.args.at.now.from.trial
      c.args.at.now.from.place c.args.at.now.from.held (plain c.args.at.now.op.now)
      (subst (λ (s : Seen). SeesStep c.args.judged.now.table.now c.args.judged.now.code.now c.args.heap.now c.visit_step.new.heap c.args.facts.now c.visit_step.new.facts
      c.args.at.now.from.trial c.args.at.now.from.place c.args.at.now.from.held (plain c.args.at.now.op.now) s) c.in-Bad.is c.in_ok-first.ensures.sees);
  waits = tt;
  few = adds_calls_up c.args.todo.now c.visit_step.new.todo 2 3 c.in_ok-first.ensures.few (omega arith);
  hands = c.in_ok-first.ensures.hands;
}

pub returns-in_ok-seen-in-Quiet : goal.returns-in_ok-seen-in-Quiet
returns-in_ok-seen-in-Quiet c = record {
  sees = store_held c.rules_look_from_the_top.ensures.stores c.args.judged.now.table.now c.args.judged.now.code.now c.args.heap.now c.visit_step.new.heap c.args.facts.now
      c.visit_step.new.facts _ c.args.at.now.from.trial c.args.at.now.from.place c.args.at.now.from.held c.args.stored (plain c.args.at.now.op.now)
      c.in_ok-seen-in-Quiet.seen c.requires.keeps c.requires.stores c.requires.inside
      (subst (λ (s : Seen). SeesStep c.args.judged.now.table.now c.args.judged.now.code.now c.args.heap.now c.visit_step.new.heap c.args.facts.now c.visit_step.new.facts
      c.args.at.now.from.trial c.args.at.now.from.place c.args.at.now.from.held (plain c.args.at.now.op.now) s) c.in-Quiet.is c.in_ok-first.ensures.sees)
      c.in_ok-seen-in-Quiet.ensures.keeps c.in_ok-seen-in-Quiet.ensures.quiet c.in_ok-seen-in-Quiet.ensures.takes;
  waits = waits_then c.args.todo.now c.visit_step.new.todo c.resume.new.todo c.in_ok-first.first c.in_ok-seen-in-Quiet.seen c.in_ok-first.ensures.waits c.in-Quiet.is
      c.in_ok-seen-in-Quiet.ensures.waits;
  few = adds_calls_then c.args.todo.now c.visit_step.new.todo c.resume.new.todo 2 1 c.in_ok-first.ensures.few c.in_ok-seen-in-Quiet.ensures.few;
  hands = hands_then c.args.facts.now c.visit_step.new.facts c.resume.new.facts c.args.todo.now c.visit_step.new.todo c.resume.new.todo
      c.in_ok-first.ensures.hands c.in_ok-seen-in-Quiet.ensures.hands;
}

pub returns-in_ok-seen-in-Changed : goal.returns-in_ok-seen-in-Changed
returns-in_ok-seen-in-Changed c = record {
  sees = store_changed c.args.judged.now.table.now c.args.judged.now.code.now c.args.heap.now c.visit_step.new.heap c.visit_step.new.heap c.args.facts.now c.visit_step.new.facts _
      c.args.at.now.from.trial c.args.at.now.from.place c.args.at.now.from.held (plain c.args.at.now.op.now) _ c.in_ok-seen-in-Changed.seen _
      (subst (λ (s : Seen). SeesStep c.args.judged.now.table.now c.args.judged.now.code.now c.args.heap.now c.visit_step.new.heap c.args.facts.now c.visit_step.new.facts
      c.args.at.now.from.trial c.args.at.now.from.place c.args.at.now.from.held (plain c.args.at.now.op.now) s) c.in-Changed.is c.in_ok-first.ensures.sees)
      (heap_same c.visit_step.new.heap) c.in_ok-seen-in-Changed.ensures.keeps c.in_ok-seen-in-Changed.ensures.quiet c.in_ok-seen-in-Changed.ensures.takes
      c.after_change.ensures;
  waits = waits_changed c.args.todo.now c.resume-in-Changed.new.todo c.in_ok-seen-in-Changed.seen c.after_change.result c.after_change.ensures;
  few = adds_calls_then c.args.todo.now c.visit_step.new.todo c.resume-in-Changed.new.todo 2 1 c.in_ok-first.ensures.few c.in_ok-seen-in-Changed.ensures.few;
  hands = hands_then c.args.facts.now c.visit_step.new.facts c.resume-in-Changed.new.facts c.args.todo.now c.visit_step.new.todo
      c.resume-in-Changed.new.todo c.in_ok-first.ensures.hands c.in_ok-seen-in-Changed.ensures.hands;
}
