-- The lines of a plan are played within its limits.
use Rattle.std.proofs.Common.{◌≤◌, ℕ, List, refl, arith, min}
use Rattle.nwq_outside.specs.Outside.{TookPrefix}
use Rattle.plan_text.specs.declared.plan.Plan.{Plan}
use Rattle.plan_text.specs.Plans.{IsPlan}
use Rattle.command_work.specs.Parts.{took_nothing}
use Rattle.module_player.specs.Premises.{MayGo}

-- some entries are taken from the beginning on
pub goes_first : (plan : Plan) → IsPlan plan → (n : ℕ) → 1 ≤ n → MayGo plan.entries (min n plan.entries) 0 0
goes_first plan kept n some = record { some = let e = kept.entries.0 in omega (arith, some, e); within = omega arith; few = omega arith }

pub no_lines : (text t : List ℕ) → TookPrefix text t t
no_lines text t = took_nothing text t t refl

pub ruleset lines = (goes_first, no_lines)
