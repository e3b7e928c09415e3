use Rattle.std.proofs.Common.{arith, sym, ◌∙◌}
use Rattle.std.proofs.lemmas.Result.{on_ok_weaker}
use Rattle.state_format.specs.Fields.{object_fields}
use Rattle.state_format.specs.WritingLemmas.{put_listed}
use Rattle.state_parts.specs.Told.{object_parts}
use Rattle.play_save.proofs.Telling.{parts_count}
use Rattle.play_save.proofs.put.put_objects.Goals as goal

pub returns-clause-put : goal.returns-clause-put
returns-clause-put g c = on_ok_weaker c.put_beside.result
    (put_listed object_fields (object_parts c.args.area.now.objects c.args.things.now) _
    (g.W.Writer.taken c.args.out.now) (g.W.Writer.taken c.put_count.new.out) (g.W.Writer.taken c.put_beside.new.out)
    c.in_ok-put_count.ensures.put (c.requires.counted ∙ sym (parts_count c.args.area.now.objects c.args.things.now c.requires.counted)))
    c.put_beside.ensures.put

pub returns-clause-few : goal.returns-clause-few
returns-clause-few g c =
    let count = parts_count c.args.area.now.objects c.args.things.now c.requires.counted in
    on_ok_weaker c.put_beside.result (λ done. omega (arith, count, c.keeps.ensures.keeps.few)) c.put_beside.ensures.put
