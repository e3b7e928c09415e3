use Rattle.std.proofs.lemmas.Result.{on_ok_weaker}
use Rattle.state_format.specs.Fields.{busy_fields, variable_fields, standing_fields, item_fields, list_of}
use Rattle.state_format.specs.WritingLemmas.{put_then}
use Rattle.state_format.proofs.put.put_object.Goals as goal

pub returns : goal.returns
returns g c =
    let o = c.args.object.now in
    record {
      put = on_ok_weaker c.put_list-3.result
          (λ e. put_then (busy_fields o.busy) _ _ _ _ c.in_ok-put_busy.ensures.put
          (put_then (list_of variable_fields o.variables) _ _ _ _ c.in_ok-put_list.ensures.put
          (put_then (list_of standing_fields o.effects) (list_of item_fields o.items) _ _ _ c.in_ok-put_list-2.ensures.put e)))
          c.put_list-3.ensures.put;
    }
