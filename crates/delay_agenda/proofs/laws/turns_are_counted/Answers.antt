use Rattle.delay_agenda.proofs.Turns.{count_put, none_left, others_left}
use Rattle.delay_agenda.proofs.laws.turns_are_counted.Goals as goal

pub returns-clause-put : goal.returns-clause-put
returns-clause-put g c = λ object e es. count_put object e es

pub returns-clause-cancel : goal.returns-clause-cancel
returns-clause-cancel g c = λ object es. (none_left object es, (λ other apart. others_left object other es apart))
