use Rattle.std.proofs.Common.{sym}
use Rattle.stack_check.proofs.Settling.{settled_look, settled_none}
use Rattle.stack_check.proofs.infer.look.Goals as goal

pub returns-in-None-clause-settled : goal.returns-in-None-clause-settled
returns-in-None-clause-settled c =
    settled_none c.args.judged.now.table.now c.args.judged.now.code.now c.args.heap.now c.args.facts.now c.args.todo.now c.args.spot c.in-None.ensures.row
    c.requires.settled

pub returns-in_ok-note-in-Some-clause-settled : goal.returns-in_ok-note-in-Some-clause-settled
returns-in_ok-note-in-Some-clause-settled c =
    settled_look c.rules_look_from_the_top.ensures.rules c.rules_look_from_the_top.ensures.stores c.args.judged.now.table.now c.args.judged.now.code.now
    c.args.heap.now c.visit.new.heap c.args.facts.now c.visit.new.facts c.args.todo.now c.visit.new.todo c.note.new.todo c.args.spot c.in-Some.held
    c.in_ok-seen-in-Some.seen c.requires.keeps (sym c.in-Some.ensures.row) c.requires.settled c.in_ok-seen-in-Some.ensures.sees
    c.in_ok-seen-in-Some.ensures.hands c.in_ok-seen-in-Some.ensures.kept c.in_ok-note-in-Some.ensures.stays c.in_ok-note-in-Some.ensures.calls
    c.in_ok-note-in-Some.ensures.handed
