use Rattle.stack_check.proofs.Handing.{given_grows, trial_set}
use Rattle.std.proofs.Common.{ap, refl, sym}
use Rattle.stack_check.proofs.Adding.{given_left, given_set}
use Rattle.stack_check.proofs.facts.give.Goals as goal

pub returns : goal.returns
returns c = record {
  keeps = given_set _ _ _ c.args.facts.now _ c.args.number c.args.given c.in-Some.trial.now _ c.requires.keeps c.requires.owed c.requires.inside
      (sym c.in-Some.ensures.item) refl (ap (λ trials. record c.args.facts.now { trials = trials }) c.set.ensures.set);
  takes = given_left c.args.judged.now.table.now c.args.judged.now.code.now c.args.heap.now c.args.facts.now _ c.args.number c.args.given c.in-Some.trial.now _ c.requires.owed
      (sym c.in-Some.ensures.item) refl (ap (λ trials. record c.args.facts.now { trials = trials }) c.set.ensures.set);
  set = trial_set c.args.facts.now _ c.args.number c.in-Some.trial.now _ (sym c.in-Some.ensures.item)
      (ap (λ trials. record c.args.facts.now { trials = trials }) c.set.ensures.set)
      (given_grows c.args.judged.now.table.now c.args.judged.now.code.now c.args.heap.now c.args.facts.now c.args.number c.args.given c.in-Some.trial.now
      c.requires.owed (sym c.in-Some.ensures.item));
}
