use Rattle.std.proofs.Common.{refl, subst}
use Rattle.std.specs.Prelude.{OnOk}
use Rattle.stack_lists.specs.Worklist.{CallersAdded, Worklist}
use Rattle.stack_lists.proofs.Worklists.{callers_done, list_inside}
use Rattle.stack_lists.proofs.todo.Todo.add_callers.Goals as goal

pub returns : goal.returns
returns c = record {
  added = subst (λ (before : Worklist). OnOk c.put_all.result (CallersAdded before (record {
    first = c.self.inside.first.items;
    soon = c.self.inside.soon.items;
    later = c.put_all.new.later.items;
    calls = c.self.inside.calls;
    called = c.self.inside.called;
    marks = c.self.inside.marks;
    waits = c.put_all.new.waits;
    cells = c.self.inside.cells;
    under = c.self.inside.under;
  }) c.args.target)) c.self.view_is
      (callers_done (record {
        first = c.self.inside.first.items;
        soon = c.self.inside.soon.items;
        later = c.self.inside.later.items;
        calls = c.self.inside.calls;
        called = c.self.inside.called;
        marks = c.self.inside.marks;
        waits = c.self.inside.waits;
        cells = c.self.inside.cells;
        under = c.self.inside.under;
      })
      _ c.args.target c.get-number.result c.put_all.result refl refl refl refl refl c.get-number.ensures.number c.self.invariant.2
      (list_inside c.self.inside.calls c.self.inside.called c.args.target c.get-number.result c.self.invariant.0 c.get-number.ensures.number) c.put_all.ensures.put);
}
