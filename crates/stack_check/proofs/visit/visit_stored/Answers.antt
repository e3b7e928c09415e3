use Rattle.stack_check.proofs.Handing.{hands_none}
use Rattle.stack_check.proofs.Following.{adds_calls_none}
use Rattle.std.proofs.Common.{◌≡◌, IfSome, subst}
use Rattle.std.specs.Option.{option_map}
use Rattle.ncs_code.specs.Plain.{plain}
use Rattle.stack_shape.specs.Stored.{stored_shape}
use Rattle.stack_lists.specs.declared.held.Held.{Held}
use Rattle.stack_lists.specs.Held.{AfterStep, shape_of, stored_of}
use Rattle.stack_check.proofs.Keeping.{keeps_grows}
use Rattle.stack_check.proofs.Storing.{sees_before, stores_as, stores_none}
use Rattle.stack_check.proofs.visit.visit_stored.Goals as goal

pub resumed-requires : goal.resumed-requires
resumed-requires c = record { inside = c.requires.keeps.inside.rows c.args.at.now.from.trial c.args.at.now.from.place c.args.at.now.from.held c.requires.row }

pub returns-in-None : goal.returns-in-None
returns-in-None c = record {
  sees = stores_none c.rules_look_from_the_top.ensures.rules c.args.judged.now.table.now c.args.judged.now.code.now c.args.heap.now c.resumed.new.heap c.args.facts.now
      c.args.at.now.from.trial c.args.at.now.from.place c.args.at.now.from.held (plain c.args.at.now.op.now) c.args.globals c.args.locals c.requires.keeps
      c.requires.row c.requires.op c.requires.store
      (subst (λ o. AfterStep c.args.heap.now c.resumed.new.heap o (option_map stored_shape (stored_of c.args.globals c.args.locals
      (shape_of c.args.heap.now c.args.at.now.from.held)))) c.in-None.is c.in_ok-resumed.ensures.after);
  waits = tt;
  few = adds_calls_none c.args.todo.now 3;
  hands = hands_none c.args.facts.now c.args.todo.now;
}

pub visit_store-requires-clause-keeps : goal.visit_store-requires-clause-keeps
visit_store-requires-clause-keeps c =
    keeps_grows _ _ _ _ _
    (subst (λ o. AfterStep c.args.heap.now c.resumed.new.heap o (option_map stored_shape (stored_of c.args.globals c.args.locals
    (shape_of c.args.heap.now c.args.at.now.from.held)))) c.in-Some.is c.in_ok-resumed.ensures.after).0 c.requires.keeps

pub visit_store-requires-clause-stores : goal.visit_store-requires-clause-stores
visit_store-requires-clause-stores c =
    stores_as c.args.heap.now c.resumed.new.heap c.args.at.now.from.held c.in-Some.stored (plain c.args.at.now.op.now) c.args.globals c.args.locals
    (c.requires.keeps.inside.rows c.args.at.now.from.trial c.args.at.now.from.place c.args.at.now.from.held c.requires.row) c.requires.store
    (subst (λ o. AfterStep c.args.heap.now c.resumed.new.heap o (option_map stored_shape (stored_of c.args.globals c.args.locals
    (shape_of c.args.heap.now c.args.at.now.from.held)))) c.in-Some.is c.in_ok-resumed.ensures.after)

pub visit_store-requires-clause-inside : goal.visit_store-requires-clause-inside
visit_store-requires-clause-inside c =
    (subst (λ o. AfterStep c.args.heap.now c.resumed.new.heap o (option_map stored_shape (stored_of c.args.globals c.args.locals
    (shape_of c.args.heap.now c.args.at.now.from.held)))) c.in-Some.is c.in_ok-resumed.ensures.after).1

pub visit_store-requires-clause-first : goal.visit_store-requires-clause-first
visit_store-requires-clause-first c =
    subst (λ o. IfSome o (λ (first : Held). (first.saved ≡ 0) × (first.pending ≡ 0))) c.in-Some.is c.in_ok-resumed.ensures.first

pub returns-in_ok-seen-in-Some : goal.returns-in_ok-seen-in-Some
returns-in_ok-seen-in-Some c = record {
  sees = sees_before _ _ _ _ _ _ _ _ _ _ _ c.requires.keeps c.requires.row
      (subst (λ o. AfterStep c.args.heap.now c.resumed.new.heap o (option_map stored_shape (stored_of c.args.globals c.args.locals
      (shape_of c.args.heap.now c.args.at.now.from.held)))) c.in-Some.is c.in_ok-resumed.ensures.after).0 c.in_ok-seen-in-Some.ensures.sees;
  waits = c.in_ok-seen-in-Some.ensures.waits;
  few = c.in_ok-seen-in-Some.ensures.few;
  hands = c.in_ok-seen-in-Some.ensures.hands;
}
