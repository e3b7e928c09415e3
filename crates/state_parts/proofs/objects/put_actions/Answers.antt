use Rattle.std.proofs.Common.{arith}
use Rattle.state_format.specs.Parts.{IsItem}
use Rattle.state_format.specs.Fields.{item_fields}
use Rattle.state_parts.specs.World.{item_of}
use Rattle.state_parts.specs.Told.{item_part}
use Rattle.state_parts.specs.ShortTexts.{is_short_item}
use Rattle.state_parts.specs.Keeping.{HasValues}
use Rattle.state_parts.specs.KeepingLemmas.{all_got}
use Rattle.state_parts.proofs.Keeping.{lent_none, lent_some, got_within}
use Rattle.state_parts.specs.PuttingLemmas.{put_none, put_got, put_end, parts_end}
use Rattle.state_parts.proofs.objects.put_actions.Goals as goal

pub loop-i-init : goal.loop-i-init
loop-i-init g c = put_none item_of IsItem is_short_item item_fields item_part c.args.queue.now.actions (g.W.Writer.taken c.args.out.now)

pub loop-i-preserved : goal.loop-i-preserved
loop-i-preserved g c = put_got item_of IsItem is_short_item item_fields item_part c.args.queue.now.actions
    (g.W.Writer.taken c.args.out.now) c.loop-i.i c.in-Some.next.now (g.W.Writer.taken c.loop-i.out)
    (g.W.Writer.taken c.put_item.new.out)
    c.loop-i.invariant c.in_ok-put_item-in-Some.ensures.put c.in_ok-put_item-in-Some.ensures.part
    (lent_some c.args.queue.now.actions c.loop-i.i c.at.result c.in-Some.next c.at.ensures.action c.in-Some.is)

pub put_item-requires : goal.put_item-requires
put_item-requires g c = record { values = all_got HasValues c.args.queue.now.actions c.loop-i.i c.in-Some.next.now c.requires.values (lent_some c.args.queue.now.actions c.loop-i.i c.at.result c.in-Some.next c.at.ensures.action c.in-Some.is) }

pub unreachable-requires : goal.unreachable-requires
unreachable-requires g c =
    let past = got_within c.args.queue.now.actions c.loop-i.i (lent_none c.args.queue.now.actions c.loop-i.i c.at.result c.at.ensures.action c.in-None.is) in
    omega (arith, past, c.loop-i-test.true, c.requires.count)

pub returns : goal.returns
returns g c = record {
  put = put_end item_of IsItem is_short_item item_fields item_part c.args.queue.now.actions
      (g.W.Writer.taken c.args.out.now) c.loop-i.i (g.W.Writer.taken c.loop-i.out) c.loop-i.invariant
      (omega (arith, c.loop-i-test.false, c.requires.count));
  parts = parts_end item_of IsItem is_short_item item_fields item_part c.args.queue.now.actions
      (g.W.Writer.taken c.args.out.now) c.loop-i.i (g.W.Writer.taken c.loop-i.out) c.loop-i.invariant
      (omega (arith, c.loop-i-test.false, c.requires.count));
}
