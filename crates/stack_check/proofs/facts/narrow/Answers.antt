use Rattle.stack_check.proofs.Handing.{seen_grows, trial_set}
use Rattle.std.proofs.Common.{ap, refl}
use Rattle.stack_check.proofs.Seeing.{narrow_keeps, narrow_more}
use Rattle.stack_check.proofs.facts.narrow.Goals as goal

pub returns-clause-keeps : goal.returns-clause-keeps
returns-clause-keeps c =
    narrow_keeps c.args.judged.now.table.now c.args.judged.now.code.now c.args.heap.now c.args.facts.now _ c.args.number c.args.trial _ c.args.unseen c.requires.keeps c.requires.trial
    c.requires.less c.requires.owed refl (ap (λ trials. record c.args.facts.now { trials = trials }) c.set.ensures.set)

pub returns-clause-takes : goal.returns-clause-takes
returns-clause-takes c =
    narrow_more c.args.judged.now.table.now c.args.judged.now.code.now c.args.heap.now c.args.facts.now _ c.args.number c.args.trial _ c.args.unseen c.requires.keeps c.requires.trial
    c.requires.less refl
    (ap (λ trials. record c.args.facts.now { trials = trials }) c.set.ensures.set)

pub returns-clause-set : goal.returns-clause-set
returns-clause-set c =
    trial_set c.args.facts.now _ c.args.number c.args.trial _ c.requires.trial (ap (λ trials. record c.args.facts.now { trials = trials }) c.set.ensures.set)
    (seen_grows c.args.trial c.args.unseen c.requires.less)
