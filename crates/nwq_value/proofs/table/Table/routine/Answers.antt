use Rattle.std.proofs.Common.{◌≡◌, ◌∙◌, slice_get, ap, subst}
use Rattle.std.specs.Option.{option_copied}
use Rattle.nwq_value.specs.Engine.{IsTable}
use Rattle.nwq_value.proofs.FoundLemmas.{lent_kept, lent_number}
use Rattle.nwq_value.proofs.table.Table.routine.Goals as goal

here : (c : goal.After-routine_at) → option_copied c.routine_at.result ≡ slice_get c.args.self.now.routines c.args.n
here c = c.routine_at.ensures ∙ ap (λ t. slice_get t.routines c.args.n) c.self.view_is

kept : (c : goal.After-routine_at) → IsTable c.args.self.now
kept c = subst IsTable c.self.view_is c.self.invariant.1

pub returns-clause-kept : goal.returns-clause-kept
returns-clause-kept c = lent_kept c.routine_at.result c.args.n c.args.self.now.routines (kept c).routines (here c)

pub returns-clause-number : goal.returns-clause-number
returns-clause-number c = lent_number c.routine_at.result c.args.n c.args.self.now.routines (kept c).routine_names (here c)
