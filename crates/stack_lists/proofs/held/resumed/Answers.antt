use Rattle.std.proofs.Common.{refl}
use Rattle.stack_lists.proofs.Heaps.{resume_some}
use Rattle.stack_lists.proofs.held.resumed.Goals as goal

pub returns-in_ok-cells-in-Some-clause-after : goal.returns-in_ok-cells-in-Some-clause-after
returns-in_ok-cells-in-Some-clause-after c =
    resume_some c.args.heap.now c.join.new.lists c.push.new.self c.join-in-Some.new.lists c.args.globals c.args.locals _ _ c.in_ok-under-in-Some.under c.in_ok-base-in-Some.base
    c.in_ok-cells-in-Some.cells c.args.held _ c.requires.inside c.in-Some.ensures.counts c.in_ok-under-in-Some.ensures.grows c.in_ok-base-in-Some.ensures.grows
    c.in_ok-cells-in-Some.ensures.grows c.in_ok-under-in-Some.ensures.inside c.in_ok-base-in-Some.ensures.inside c.in_ok-cells-in-Some.ensures.inside c.in_ok-under-in-Some.ensures.reads
    c.in_ok-base-in-Some.ensures.reads c.in_ok-cells-in-Some.ensures.reads refl
