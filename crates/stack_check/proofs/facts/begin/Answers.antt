use Rattle.stack_check.proofs.Handing.{hands_begun}
use Rattle.stack_check.proofs.Adding.{trial_left}
use Rattle.stack_check.proofs.Keeping.{keeps_trial}
use Rattle.stack_check.proofs.facts.begin.Goals as goal

pub returns-clause-keeps : goal.returns-clause-keeps
returns-clause-keeps c =
    keeps_trial _ _ _ c.args.facts.now _ c.args.trial c.requires.keeps c.in_ok-number.ensures.added c.requires.inside (λ e. absurd (c.requires.entry e))
    c.requires.begins

pub returns-clause-takes : goal.returns-clause-takes
returns-clause-takes c = trial_left c.args.judged.now.table.now c.args.judged.now.code.now c.args.heap.now c.args.facts.now _ c.args.trial c.in_ok-number.ensures.added c.requires.begins

pub returns-clause-hands : goal.returns-clause-hands
returns-clause-hands c =
    hands_begun c.args.facts.now c.add_trial.new.facts c.args.todo.now c.add.new.self c.args.trial c.in_ok-number.number c.first_place-place.result
    c.in_ok-number.ensures.added c.in_ok-number.ensures.number c.first_place-place.ensures c.in_ok-add.ensures.added c.in_ok-add.ensures.calls
