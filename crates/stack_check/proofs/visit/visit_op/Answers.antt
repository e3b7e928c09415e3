use Rattle.ncs_code.specs.Plain.{plain}
use Rattle.stack_check.proofs.Storing.{call_next, call_stands, return_stands, store_op}
use Rattle.stack_check.proofs.Settling.{kept_call}
use Rattle.stack_check.proofs.visit.visit_op.Goals as goal

pub call-requires-clause-op : goal.call-requires-clause-op
call-requires-clause-op c =
    call_stands c.args.judged.now.code.now c.args.from.place (plain c.args.op.now) c.in-Call.target c.kind_of.result c.kind_of.ensures c.in-Call.is c.requires.op

pub call-requires-clause-next : goal.call-requires-clause-next
call-requires-clause-next c =
    call_next c.args.from.place c.end_of-next.result (plain c.args.op.now) c.in-Call.target c.kind_of.result c.kind_of.ensures c.in-Call.is
    c.end_of-next.ensures.next

pub visit_return-requires-clause-op : goal.visit_return-requires-clause-op
visit_return-requires-clause-op c =
    return_stands c.args.judged.now.code.now c.args.from.place (plain c.args.op.now) c.kind_of.result c.kind_of.ensures c.in-Return.is c.requires.op

pub visit_stored-requires-clause-store : goal.visit_stored-requires-clause-store
visit_stored-requires-clause-store c =
    store_op c.args.from.place (plain c.args.op.now) c.in-Store.globals c.in-Store.locals c.kind_of.result c.kind_of.ensures c.in-Store.is

pub returns-in_ok-seen-in-Call-clause-kept : goal.returns-in_ok-seen-in-Call-clause-kept
returns-in_ok-seen-in-Call-clause-kept c =
    kept_call c.args.judged.now.code.now c.call.new.todo c.args.from.trial c.args.from.place c.in-Call.target
    (call_stands c.args.judged.now.code.now c.args.from.place (plain c.args.op.now) c.in-Call.target c.kind_of.result c.kind_of.ensures c.in-Call.is c.requires.op)
    c.in_ok-seen-in-Call.ensures.kept
