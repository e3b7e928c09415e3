use Rattle.std.proofs.lemmas.Result.{on_ok_weaker}
use Rattle.play_save.proofs.Telling.{back_put, both_done}
use Rattle.play_save.proofs.put.put_back.Goals as goal

pub returns-clause-put : goal.returns-clause-put
returns-clause-put g c = on_ok_weaker c.put_entries.result
    (back_put c.args.random.now c.args.area.now.objects c.args.things.now c.args.entries.now _ _ _ _ c.in_ok-put_randoms.ensures.put c.in_ok-put_objects.ensures.put)
    c.put_entries.ensures.put

pub returns-clause-told : goal.returns-clause-told
returns-clause-told g c = on_ok_weaker c.put_entries.result
    (λ both. record {
      random = c.in_ok-put_randoms.ensures.form;
      objects = c.in_ok-put_objects.ensures.objects;
      few_objects = c.in_ok-put_objects.ensures.few;
      entries = both.0;
      few_entries = both.1;
    })
    (both_done _ _ c.put_entries.result c.put_entries.ensures.parts c.put_entries.ensures.few)
