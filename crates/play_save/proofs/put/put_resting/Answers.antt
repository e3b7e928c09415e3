use Rattle.std.proofs.lemmas.Result.{on_ok_weaker}
use Rattle.play_save.proofs.Telling.{resting_put}
use Rattle.play_save.proofs.put.put_resting.Goals as goal

pub returns-clause-put : goal.returns-clause-put
returns-clause-put g c = on_ok_weaker c.put_back.result (resting_put c.args.play.now _ _ _ c.in_ok-put_front.ensures.put) c.put_back.ensures.put

pub returns-clause-told : goal.returns-clause-told
returns-clause-told g c = on_ok_weaker c.put_back.result (λ told. record { front = c.in_ok-put_front.ensures.told; back = told }) c.put_back.ensures.told
