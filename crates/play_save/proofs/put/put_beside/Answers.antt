use Rattle.std.proofs.Common.{arith, ◌∙◌}
use Rattle.std.specs.List.{AllByRecursion}
use Rattle.saved_state.specs.declared.saved.Saved.{Saved}
use Rattle.world_rules.specs.declared.data.Things.{Things}
use Rattle.state_parts.specs.Keeping.{HasValues}
use Rattle.play_save.proofs.Lists.{all_at}
use Rattle.play_save.proofs.Keeping.{object_here}
use Rattle.play_save.proofs.Telling.{objects_none, objects_put, objects_whole, objects_told}
use Rattle.play_save.proofs.put.put_beside.Goals as goal

pub loop-i-init : goal.loop-i-init
loop-i-init g c = objects_none c.args.area.now.objects c.args.things.now (g.W.Writer.taken c.args.out.now)

pub loop-i-preserved : goal.loop-i-preserved
loop-i-preserved g c = objects_put c.args.area.now.objects c.args.things.now (g.W.Writer.taken c.args.out.now) c.loop-i.i c.index-things-i.result c.vars.result.now (g.W.Writer.taken c.loop-i.out)
    (g.W.Writer.taken c.put_object.new.out) c.loop-i.invariant c.in_ok-put_object.ensures.put (c.vars.ensures.vars ∙ object_here c.args.area.now c.loop-i.i) c.in_ok-put_object.ensures.things
    c.in_ok-put_object.ensures.variables c.in_ok-put_object.ensures.form c.in_ok-put_object.ensures.short (omega (arith, c.requires.counted, c.loop-i-test.true)) c.loop-i-test.true c.index-things-i.is

pub put_object-requires : goal.put_object-requires
put_object-requires g c = record {
  values = all_at
      (λ (t : Things Saved). AllByRecursion HasValues t.queue.actions) c.args.things.now c.loop-i.i c.index-things-i.result c.requires.values c.loop-i-test.true c.index-things-i.is;
}

pub returns : goal.returns
returns g c = record {
  put = objects_whole c.args.area.now.objects c.args.things.now (g.W.Writer.taken c.args.out.now) c.loop-i.i (g.W.Writer.taken c.loop-i.out) c.loop-i.invariant
      (omega (arith, c.requires.counted, c.loop-i-test.false)) c.loop-i-test.false;
  objects = objects_told c.args.area.now.objects c.args.things.now (g.W.Writer.taken c.args.out.now) c.loop-i.i (g.W.Writer.taken c.loop-i.out) c.loop-i.invariant
      (omega (arith, c.requires.counted, c.loop-i-test.false)) c.loop-i-test.false;
}
