use Rattle.delay_agenda.proofs.LawLemmas.{head_is_next, put_adds_one, below_member, distinct_members}
use Rattle.delay_agenda.proofs.laws.entries_tell.Goals as goal

pub returns-clause-head : goal.returns-clause-head
returns-clause-head g c = λ e es order. head_is_next e es order

pub returns-clause-put : goal.returns-clause-put
returns-clause-put g c = λ e es. put_adds_one e es

pub returns-clause-below : goal.returns-clause-below
returns-clause-below g c = λ next es below. below_member next es below

pub returns-clause-distinct : goal.returns-clause-distinct
returns-clause-distinct g c = λ es distinct. distinct_members es distinct
