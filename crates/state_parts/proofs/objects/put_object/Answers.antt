use Rattle.std.proofs.Common.{◌++◌, ◌∙◌, ap, map}
use Rattle.std.specs.Prelude.{Bool}
use Rattle.std.proofs.lemmas.Result.{on_ok_weaker}
use Rattle.state_format.specs.Fields.{busy_fields, joined, variable_fields, standing_fields, item_fields, list_of}
use Rattle.state_format.specs.WritingLemmas.{put_then}
use Rattle.state_parts.specs.Told.{item_part, stood_part, variable_part}
use Rattle.state_parts.proofs.objects.put_object.Goals as goal

pub returns-clause-put : goal.returns-clause-put
returns-clause-put g c =
    let t = c.args.things.now in
    on_ok_weaker c.put_items.result
    (λ e. put_then (busy_fields t.queue.busy) _ _ _ _
    (c.in_ok-put_busy.ensures.put ∙ ap (λ (b : Bool). g.W.Writer.taken c.args.out.now ++ joined (busy_fields b)) c.is_busy.ensures.mark)
    (put_then (list_of variable_fields (map variable_part c.args.vars.now)) _ _ _ _ c.in_ok-put_variables.ensures.put
    (put_then (list_of standing_fields (map stood_part t.effects)) (list_of item_fields (map item_part t.queue.actions)) _ _ _ c.in_ok-put_standing.ensures.put e)))
    c.put_items.ensures.put
