use Rattle.std.proofs.Common.{subst}
use Rattle.stack_lists.specs.Shared.{Grows}
use Rattle.stack_lists.proofs.SharedLists.{grows_one}
use Rattle.stack_lists.proofs.lists.Lists.push.Goals as goal

pub returns-clause-grows : goal.returns-clause-grows
returns-clause-grows g c =
    subst (λ nodes. Grows nodes c.push.new.self) c.self.view_is (grows_one c.self.inside.nodes c.push.new.self _ c.self.invariant.0 c.in_ok-push.ensures.ok)
