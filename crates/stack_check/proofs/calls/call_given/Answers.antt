use Rattle.stack_check.proofs.Handing.{hands_none}
use Rattle.stack_check.proofs.Following.{adds_calls_none, spots_first}
use Rattle.std.proofs.Common.{arith, rules, ◌≤◌, ◌-◌, ◌∙◌, drop, length, refl, subst, sym, take, ap, ◌++◌}
use Rattle.stack_shape.specs.declared.reach.Reach.{Reach}
use Rattle.stack_lists.specs.Shared.{read}
use Rattle.stack_lists.specs.Held.{HeapGrows, Holds, shape_of}
use Rattle.stack_lists.specs.declared.held.Heap.{Heap}
use Rattle.stack_check.specs.Inference.{Calls, Sees}
use Rattle.stack_check.proofs.Keeping.{keeps_grows}
use Rattle.stack_check.proofs.CallSteps.{behind_shape, callee_in, given_in, given_long, given_owed, given_sees, given_there, holds_behind}
use Rattle.stack_check.proofs.calls.call_given.Goals as goal

pub overflow_sub-count : goal.overflow_sub-count
overflow_sub-count c =
    let l = given_long c.args.judged.now.table.now c.args.judged.now.code.now c.args.heap.now c.args.facts.now c.args.at.target c.args.callee c.args.given c.requires.keeps c.requires.calls c.requires.given in
    omega (arith, l, c.depth.ensures.depth)

pub window-requires : goal.window-requires
window-requires c = record { inside = callee_in c.args.judged.now.table.now c.args.judged.now.code.now c.args.heap.now c.args.facts.now c.args.at.target c.args.callee c.requires.keeps c.requires.calls }

pub is_found-requires-clause-inside : goal.is_found-requires-clause-inside
is_found-requires-clause-inside c = c.requires.keeps.inside

pub is_found-requires-clause-given : goal.is_found-requires-clause-given
is_found-requires-clause-given c = given_in c.args.judged.now.table.now c.args.judged.now.code.now c.args.heap.now c.args.facts.now c.args.at.target c.args.callee c.args.given c.requires.keeps c.requires.calls c.requires.given

pub is_found-requires-clause-count : goal.is_found-requires-clause-count
is_found-requires-clause-count c = omega (arith, c.depth.ensures.depth)

pub returns-then-branch : goal.returns-then-branch
returns-then-branch c = record {
  sees = subst (λ (h : Heap). Sees c.args.judged.now.table.now c.args.judged.now.code.now c.args.heap.now h c.args.facts.now c.args.facts.now c.args.at.from.trial c.args.at.from.place c.args.at.from.held _)
      (sym c.in_ok-is_found.ensures.same)
      (given_there c.args.judged.now.table.now c.args.judged.now.code.now c.args.heap.now c.args.facts.now c.args.at.from.trial c.args.at.from.place c.requires.op.offset c.args.at.from.held c.args.callee c.args.given c.args.at.next _
      c.requires.keeps c.requires.op.stands
      (subst (λ t. Calls c.args.facts.now t c.args.callee)
      (sym c.requires.op.leads) c.requires.calls) c.requires.given c.requires.next c.requires.begins c.requires.within (c.in_ok-is_found.ensures.found (search rules))
      (behind_shape c.args.heap.now c.args.at.from.held c.args.callee c.args.given c.lower-rest.result _ _ (ap (λ n. n - c.args.callee.unseen.cells) c.depth.ensures.depth)
      (c.lower-rest.ensures.reads ∙ ap (λ (r : Reach). drop r.cells (read c.args.heap.now.slots c.args.at.from.held.cells)) c.window.ensures) refl));
  waits = refl;
  few = adds_calls_none c.args.todo.now 3;
  hands = hands_none c.args.facts.now c.args.todo.now;
}

pub with_cells-requires-clause-upper : goal.with_cells-requires-clause-upper
with_cells-requires-clause-upper c =
    subst (λ (h : Heap). c.args.given ≤ length h.slots) (sym c.in_ok-is_found.ensures.same)
    (given_in c.args.judged.now.table.now c.args.judged.now.code.now c.args.heap.now c.args.facts.now c.args.at.target c.args.callee c.args.given c.requires.keeps c.requires.calls c.requires.given)

pub follow-requires-clause-keeps : goal.follow-requires-clause-keeps
follow-requires-clause-keeps c =
    keeps_grows c.args.judged.now.table.now c.args.judged.now.code.now c.args.heap.now c.with_cells.new.heap c.args.facts.now
    (subst (λ (h : Heap). HeapGrows h c.with_cells.new.heap) c.in_ok-is_found.ensures.same c.in_ok-now.ensures.holds.grows) c.requires.keeps

pub follow-requires-clause-owed : goal.follow-requires-clause-owed
follow-requires-clause-owed c =
    given_owed c.args.judged.now.table.now c.args.judged.now.code.now c.args.heap.now c.with_cells.new.heap c.args.facts.now c.args.at.from.trial c.args.at.from.place c.requires.op.offset c.args.at.from.held c.in_ok-now.now
    c.args.callee c.args.given c.args.at.next c.requires.keeps c.requires.row c.requires.op.stands
    (subst (λ t. Calls c.args.facts.now t c.args.callee)
    (sym c.requires.op.leads) c.requires.calls) c.requires.given c.requires.next c.requires.within
    (holds_behind c.args.heap.now c.with_cells.new.heap c.args.at.from.held c.in_ok-now.now c.args.callee c.args.given c.lower-rest.result _
    (ap (λ n. n - c.args.callee.unseen.cells) c.depth.ensures.depth)
    (c.lower-rest.ensures.reads ∙ ap (λ (r : Reach). drop r.cells (read c.args.heap.now.slots c.args.at.from.held.cells)) c.window.ensures)
    (subst (λ (h : Heap). Holds h c.with_cells.new.heap c.in_ok-now.now (record (shape_of h c.args.at.from.held) {
      cells = take (c.depth.result - c.args.callee.unseen.cells) (read h.slots c.args.given) ++ read h.slots c.lower-rest.result;
    })) c.in_ok-is_found.ensures.same c.in_ok-now.ensures.holds))

pub returns : goal.returns
returns c = record {
  sees = given_sees c.args.judged.now.table.now c.args.judged.now.code.now c.args.heap.now c.with_cells.new.heap c.args.facts.now c.follow.new.facts c.args.at.from.trial c.args.at.from.place c.requires.op.offset
      c.args.at.from.held c.in_ok-now.now c.args.callee c.args.given c.args.at.next c.in_ok-seen.seen c.requires.keeps c.requires.op.stands (subst (λ t. Calls c.args.facts.now t c.args.callee) (sym c.requires.op.leads) c.requires.calls) c.requires.given
      c.requires.next c.requires.begins c.requires.within
      (holds_behind c.args.heap.now c.with_cells.new.heap c.args.at.from.held c.in_ok-now.now c.args.callee c.args.given c.lower-rest.result _
      (ap (λ n. n - c.args.callee.unseen.cells) c.depth.ensures.depth)
      (c.lower-rest.ensures.reads ∙ ap (λ (r : Reach). drop r.cells (read c.args.heap.now.slots c.args.at.from.held.cells)) c.window.ensures)
      (subst (λ (h : Heap). Holds h c.with_cells.new.heap c.in_ok-now.now (record (shape_of h c.args.at.from.held) {
        cells = take (c.depth.result - c.args.callee.unseen.cells) (read h.slots c.args.given) ++ read h.slots c.lower-rest.result;
      })) c.in_ok-is_found.ensures.same c.in_ok-now.ensures.holds))
      c.in_ok-seen.ensures.keeps c.in_ok-seen.ensures.quiet c.in_ok-seen.ensures.takes;
  waits = c.in_ok-seen.ensures.waits;
  few = spots_first c.args.todo.now c.follow.new.todo c.in_ok-seen.ensures.few;
  hands = c.in_ok-seen.ensures.hands;
}
