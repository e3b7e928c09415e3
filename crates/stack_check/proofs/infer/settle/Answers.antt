use Rattle.std.proofs.Common.{arith}
use Rattle.stack_check.proofs.Costs.{looks_found, looks_last, looks_step}
use Rattle.stack_check.proofs.Ending.{ends_few, goes_down, goes_on, goes_settled}
use Rattle.stack_check.proofs.infer.settle.Goals as goal

pub work-preserved : goal.work-preserved
work-preserved c =
    let more = goes_down _ _ _ _ _ _ _ c.in_ok-turn.ensures.sees c.in-Changed.is in
    let t = c.work.invariant.1 in
    let e = c.turn.ensures.turns in (
      goes_on _ _ _ _ _ _ _ c.in_ok-turn.ensures.sees c.in-Changed.is,
      record {
        left = let l = t.left in let m = more.left in omega (arith, l, m, e);
        found = let l = t.found in let m = more.found in omega (arith, l, m, e);
      },
      looks_step c.args.todo.now c.work.todo c.turn.new.todo c.args.turns.now c.work.turns c.turn.new.turns c.args.looks.now c.work.looks c.turn.new.looks
          c.work.invariant.2 e c.in_ok-turn.ensures.looks,
      goes_settled _ _ _ _ _ _ _ c.in_ok-turn.ensures.sees c.in-Changed.is,
    )

pub returns-in-Quiet-clause-looks : goal.returns-in-Quiet-clause-looks
returns-in-Quiet-clause-looks c =
    looks_last c.args.judged.now.table.now c.args.judged.now.code.now c.work.heap c.args.facts.now c.work.facts c.args.todo.now c.work.todo
    c.turn.new.todo c.args.turns.now c.work.turns c.turn.new.turns c.args.looks.now c.work.looks c.turn.new.looks
    c.work.invariant.0 c.work.invariant.2 c.work.invariant.1.found c.turn.ensures.turns c.in_ok-turn.ensures.looks

pub returns-in-Quiet-clause-few : goal.returns-in-Quiet-clause-few
returns-in-Quiet-clause-few c = λ found.
    looks_found c.args.todo.now c.work.todo c.turn.new.todo c.args.turns.now c.work.turns c.turn.new.turns c.args.looks.now c.work.looks c.turn.new.looks
    c.work.invariant.2 c.turn.ensures.turns c.in_ok-turn.ensures.looks

pub returns-in-Quiet-clause-calls : goal.returns-in-Quiet-clause-calls
returns-in-Quiet-clause-calls c = λ found. ends_few _ _ _ _ _ _ _ c.in_ok-turn.ensures.sees c.in-Quiet.is

pub returns-in-Bad-clause-looks : goal.returns-in-Bad-clause-looks
returns-in-Bad-clause-looks c =
    looks_last c.args.judged.now.table.now c.args.judged.now.code.now c.work.heap c.args.facts.now c.work.facts c.args.todo.now c.work.todo
    c.turn.new.todo c.args.turns.now c.work.turns c.turn.new.turns c.args.looks.now c.work.looks c.turn.new.looks
    c.work.invariant.0 c.work.invariant.2 c.work.invariant.1.found c.turn.ensures.turns c.in_ok-turn.ensures.looks
