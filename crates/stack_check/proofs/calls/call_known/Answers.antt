use Rattle.stack_check.proofs.Handing.{hands_none, hands_same}
use Rattle.stack_check.proofs.Following.{adds_calls_none, adds_calls_same}
use Rattle.std.proofs.Common.{ap}
use Rattle.stack_lists.specs.Worklist.{Worklist, waiting}
use Rattle.std.proofs.Common.{rules, subst, sym}
use Rattle.std.proofs.lemmas.Bool.{iff_false}
use Rattle.stack_lists.specs.Held.{shape_of}
use Rattle.stack_lists.specs.declared.held.Heap.{Heap}
use Rattle.stack_check.specs.declared.facts.Facts.{Facts}
use Rattle.stack_check.specs.Inference.{Calls, IsThere, LooksOwed, Sees, TrialIn, Within, window}
use Rattle.stack_check.proofs.Calling.{call_there}
use Rattle.stack_check.proofs.CallSteps.{callee_in, looks_there, sees_none, sees_other}
use Rattle.stack_check.proofs.calls.call_known.Goals as goal

pub begins-requires-clause-held : goal.begins-requires-clause-held
begins-requires-clause-held c = c.requires.keeps.inside.rows c.args.at.from.trial c.args.at.from.place c.args.at.from.held c.requires.row

pub begins-requires-clause-inside : goal.begins-requires-clause-inside
begins-requires-clause-inside c = callee_in c.args.judged.now.table.now c.args.judged.now.code.now c.args.heap.now c.args.facts.now c.args.at.target c.args.callee c.requires.keeps c.requires.calls

pub returns-then-not-branch : goal.returns-then-not-branch
returns-then-not-branch c = record {
  sees = subst (λ (h : Heap). Sees c.args.judged.now.table.now c.args.judged.now.code.now c.args.heap.now h c.args.facts.now c.args.facts.now c.args.at.from.trial c.args.at.from.place
      c.args.at.from.held _)
      (sym c.in_ok-begins.ensures.same)
      (sees_other c.args.judged.now.table.now c.args.judged.now.code.now c.args.heap.now c.args.facts.now c.args.at.from.trial c.args.at.from.place c.requires.op.offset c.args.at.from.held
      c.args.callee c.requires.keeps
      c.requires.row c.requires.op.stands (subst (λ t. Calls c.args.facts.now t c.args.callee) (sym c.requires.op.leads) c.requires.calls) (iff_false c.in_ok-begins.ensures.begins (search rules)));
  waits = tt;
  few = adds_calls_none c.args.todo.now 3;
  hands = hands_none c.args.facts.now c.args.todo.now;
}

pub window-requires : goal.window-requires
window-requires c = record {
  inside = subst (λ (h : Heap). TrialIn h c.args.callee) (sym c.in_ok-begins.ensures.same)
      (callee_in c.args.judged.now.table.now c.args.judged.now.code.now c.args.heap.now c.args.facts.now c.args.at.target c.args.callee c.requires.keeps c.requires.calls);
}

pub see-requires-clause-looks : goal.see-requires-clause-looks
see-requires-clause-looks c =
    subst (λ r. IsThere (shape_of c.begins.new.heap c.args.at.from.held) r) (sym c.window.ensures)
    (subst (λ (h : Heap). IsThere (shape_of h c.args.at.from.held) (window h c.args.callee)) (sym c.in_ok-begins.ensures.same)
    (call_there c.args.heap.now c.args.at.from.held c.args.callee (c.in_ok-begins.ensures.begins.0 (search rules))))

pub see-requires-clause-owed : goal.see-requires-clause-owed
see-requires-clause-owed c =
    subst (λ r. LooksOwed c.args.judged.now.table.now c.args.judged.now.code.now c.begins.new.heap c.args.facts.now c.args.at.from.trial c.args.at.from.place r) (sym c.window.ensures)
    (subst (λ (h : Heap). LooksOwed c.args.judged.now.table.now c.args.judged.now.code.now h c.args.facts.now c.args.at.from.trial c.args.at.from.place (window h c.args.callee))
    (sym c.in_ok-begins.ensures.same)
    (looks_there c.args.judged.now.table.now c.args.judged.now.code.now c.args.heap.now c.args.facts.now c.args.at.from.trial c.args.at.from.place c.requires.op.offset c.args.callee
    c.requires.keeps c.requires.op.stands (subst (λ t. Calls c.args.facts.now t c.args.callee) (sym c.requires.op.leads) c.requires.calls)))

pub returns-in-None : goal.returns-in-None
returns-in-None c =
    let w = c.in_ok-see.ensures.within (search rules) in record {
      sees = subst (λ (f : Facts). Sees c.args.judged.now.table.now c.args.judged.now.code.now c.args.heap.now c.begins.new.heap c.args.facts.now f c.args.at.from.trial c.args.at.from.place
          c.args.at.from.held _) (sym w.0)
          (subst (λ (h : Heap). Sees c.args.judged.now.table.now c.args.judged.now.code.now c.args.heap.now h c.args.facts.now c.args.facts.now c.args.at.from.trial c.args.at.from.place
          c.args.at.from.held _)
          (sym c.in_ok-begins.ensures.same)
          (sees_none c.args.judged.now.table.now c.args.judged.now.code.now c.args.heap.now c.args.facts.now c.args.at.from.trial c.args.at.from.place c.requires.op.offset
          c.args.at.from.held c.args.callee c.requires.keeps
          c.requires.op.stands (subst (λ t. Calls c.args.facts.now t c.args.callee) (sym c.requires.op.leads) c.requires.calls) c.in-None.is (c.in_ok-begins.ensures.begins.0 (search rules))
          (subst (λ (h : Heap). Within h c.args.facts.now c.args.at.from.trial (shape_of h c.args.at.from.held) (window h c.args.callee)) c.in_ok-begins.ensures.same
          (subst (λ r. Within c.begins.new.heap c.args.facts.now c.args.at.from.trial (shape_of c.begins.new.heap c.args.at.from.held) r) c.window.ensures w.1))));
      waits = ap (λ (w : Worklist). waiting w) (c.in_ok-see.ensures.same (search rules));
      few = adds_calls_same c.args.todo.now c.see.new.todo c.see.new.todo 3 (c.in_ok-see.ensures.same (search rules)) (adds_calls_none c.see.new.todo 3);
      hands = hands_same c.args.facts.now c.see.new.facts c.args.todo.now c.see.new.todo w.0 (c.in_ok-see.ensures.same (search rules));
    }
