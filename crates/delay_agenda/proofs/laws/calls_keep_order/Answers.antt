use Rattle.delay_agenda.proofs.OrderLemmas.{agenda_put, agenda_posted, agenda_taken, agenda_cancelled}
use Rattle.delay_agenda.proofs.laws.calls_keep_order.Goals as goal

pub returns-clause-post : goal.returns-clause-post
returns-clause-post g c = λ due kind waiting kept. agenda_posted due kind waiting kept

pub returns-clause-put : goal.returns-clause-put
returns-clause-put g c = λ e waiting kept below none. agenda_put e waiting kept below none

pub returns-clause-take : goal.returns-clause-take
returns-clause-take g c = λ waiting kept. agenda_taken waiting kept

pub returns-clause-cancel : goal.returns-clause-cancel
returns-clause-cancel g c = λ object waiting kept. agenda_cancelled object waiting kept
