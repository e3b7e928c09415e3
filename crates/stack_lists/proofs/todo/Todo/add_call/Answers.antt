use Rattle.std.proofs.Common.{subst}
use Rattle.stack_lists.specs.Worklist.{CallKept, IsMarked, Worklist}
use Rattle.stack_lists.proofs.Worklists.{call_added, few_more, marked_grows, marked_here, marked_put, marked_same, there_put, there_same}
use Rattle.stack_lists.proofs.Waits.{wait_grows}
use Rattle.stack_lists.proofs.todo.Todo.add_call.Goals as goal

pub invariant_of-self-in_err-put : goal.invariant_of-self-in_err-put
invariant_of-self-in_err-put c =
    let g = c.in_ok-number.ensures.grows in (
      there_same c.self.inside.calls c.push.new.self c.self.inside.called c.put.new.self c.self.invariant.0 g.longer c.in_err-put.ensures.err,
      marked_grows c.self.inside.calls c.push.new.self c.self.inside.called c.put.new.self c.self.inside.marks c.self.invariant.0 c.self.invariant.1 g
          c.in_err-put.ensures.err,
      wait_grows c.self.inside.calls c.push.new.self c.self.inside.waits _ g c.self.invariant.2,
      few_more c.self.inside.calls c.push.new.self c.len.result _ c.len.ensures.count c.in_ok-room.ensures.room c.in_ok-number.ensures.added,
    )

pub invariant_of-self-in_err-put-2 : goal.invariant_of-self-in_err-put-2
invariant_of-self-in_err-put-2 c =
    let g = c.in_ok-number.ensures.grows in (
      there_put c.self.inside.calls c.push.new.self c.self.inside.called c.put.new.self c.args.call.target c.in_ok-number.number c.self.invariant.0 g.longer
          c.in_ok-number.ensures.inside c.in_ok-put.ensures.put,
      marked_same c.push.new.self c.put.new.self c.self.inside.marks c.put-2.new.self
          (marked_put c.self.inside.calls c.push.new.self c.self.inside.called c.put.new.self c.self.inside.marks c.get-below.result c.in_ok-number.number c.args.call
          c.self.invariant.0 c.self.invariant.1 g c.get-below.ensures.number c.in_ok-number.ensures.reads c.in_ok-put.ensures.put) c.in_err-put-2.ensures.err,
      wait_grows c.self.inside.calls c.push.new.self c.self.inside.waits _ g c.self.invariant.2,
      few_more c.self.inside.calls c.push.new.self c.len.result _ c.len.ensures.count c.in_ok-room.ensures.room c.in_ok-number.ensures.added,
    )

pub invariant_of-self-2 : goal.invariant_of-self-2
invariant_of-self-2 c =
    let g = c.in_ok-number.ensures.grows in (
      there_put c.self.inside.calls c.push.new.self c.self.inside.called c.put.new.self c.args.call.target c.in_ok-number.number c.self.invariant.0 g.longer
          c.in_ok-number.ensures.inside c.in_ok-put.ensures.put,
      marked_here c.push.new.self c.put.new.self c.self.inside.marks c.put-2.new.self c.args.row c.in_ok-number.number c.args.call _
          (marked_put c.self.inside.calls c.push.new.self c.self.inside.called c.put.new.self c.self.inside.marks c.get-below.result c.in_ok-number.number c.args.call
          c.self.invariant.0 c.self.invariant.1 g c.get-below.ensures.number c.in_ok-number.ensures.reads c.in_ok-put.ensures.put) c.in_ok-number.ensures.inside
          c.in_ok-number.ensures.reads c.in_ok-put.ensures.put.here c.in_ok-put-2.ensures.put,
      wait_grows c.self.inside.calls c.push.new.self c.self.inside.waits _ g c.self.invariant.2,
      few_more c.self.inside.calls c.push.new.self c.len.result _ c.len.ensures.count c.in_ok-room.ensures.room c.in_ok-number.ensures.added,
    )

pub returns-clause-kept : goal.returns-clause-kept
returns-clause-kept c =
    subst (λ (before : Worklist). (IsMarked before c.args.row c.args.call → ⊥) → CallKept before (record {
      first = c.self.inside.first.items;
      soon = c.self.inside.soon.items;
      later = c.self.inside.later.items;
      calls = c.push.new.self;
      called = c.put.new.self;
      marks = c.put-2.new.self;
      waits = c.self.inside.waits;
      cells = c.self.inside.cells;
      under = c.self.inside.under;
    }) c.args.row c.args.call) c.self.view_is
    (call_added (record {
      first = c.self.inside.first.items;
      soon = c.self.inside.soon.items;
      later = c.self.inside.later.items;
      calls = c.self.inside.calls;
      called = c.self.inside.called;
      marks = c.self.inside.marks;
      waits = c.self.inside.waits;
      cells = c.self.inside.cells;
      under = c.self.inside.under;
    })
    _ c.args.row c.get-below.result c.in_ok-number.number c.args.call _ c.self.invariant.0 c.self.invariant.1 c.in_ok-number.ensures.grows
    c.in_ok-number.ensures.added c.get-below.ensures.number
    c.in_ok-number.ensures.reads c.in_ok-number.ensures.inside c.in_ok-put.ensures.put c.in_ok-put-2.ensures.put)
    (c.is_marked.ensures.none c.if-is_marked.false)
