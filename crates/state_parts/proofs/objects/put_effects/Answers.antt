use Rattle.std.proofs.Common.{arith, ap, ◌∙◌, drop, List}
use Rattle.std.specs.Prelude.{slice_get}
use Rattle.world_rules.specs.declared.data.Stood.{Stood}
use Rattle.state_format.specs.Parts.{IsStanding}
use Rattle.state_format.specs.Fields.{standing_fields}
use Rattle.state_parts.specs.World.{stood_of}
use Rattle.state_parts.specs.Told.{stood_part}
use Rattle.state_parts.specs.Keeping.{any_text}
use Rattle.state_parts.proofs.Keeping.{lent_none, lent_some, got_within, first_left, left_more}
use Rattle.state_parts.specs.PuttingLemmas.{put_none, put_got, put_end, parts_end}
use Rattle.state_parts.proofs.objects.put_effects.Goals as goal

pub loop-done-init : goal.loop-done-init
loop-done-init g c = (put_none stood_of IsStanding any_text standing_fields stood_part c.args.effects.now (g.W.Writer.taken c.args.out.now), c.walk-walk.ensures.all)

pub loop-done-preserved : goal.loop-done-preserved
loop-done-preserved g c =
    let next = c.next.ensures.first ∙ ap (λ (l : List Stood). slice_get l 0) c.loop-done.invariant.1 ∙ first_left c.args.effects.now c.loop-done._done in (
      put_got stood_of IsStanding any_text standing_fields stood_part c.args.effects.now
          (g.W.Writer.taken c.args.out.now) c.loop-done._done c.in-Some.effect.now
          (g.W.Writer.taken c.loop-done.out) (g.W.Writer.taken c.put_stood.new.out)
          c.loop-done.invariant.0 c.in_ok-put_stood-in-Some.ensures.put c.in_ok-put_stood-in-Some.ensures.part
          (lent_some c.args.effects.now c.loop-done._done c.next.result c.in-Some.effect next c.in-Some.is),
      c.next.ensures.rest ∙ ap (λ (l : List Stood). drop 1 l) c.loop-done.invariant.1 ∙ left_more c.args.effects.now c.loop-done._done,
    )

pub unreachable-requires : goal.unreachable-requires
unreachable-requires g c =
    let next = c.next.ensures.first ∙ ap (λ (l : List Stood). slice_get l 0) c.loop-done.invariant.1 ∙ first_left c.args.effects.now c.loop-done._done in
    let past = got_within c.args.effects.now c.loop-done._done (lent_none c.args.effects.now c.loop-done._done c.next.result next c.in-None.is) in
    omega (arith, past, c.loop-done-test.true, c.len-done-end.ensures.len)

pub returns : goal.returns
returns g c = record {
  put = put_end stood_of IsStanding any_text standing_fields stood_part c.args.effects.now
      (g.W.Writer.taken c.args.out.now) c.loop-done._done (g.W.Writer.taken c.loop-done.out) c.loop-done.invariant.0
      (omega (arith, c.loop-done-test.false, c.len-done-end.ensures.len));
  parts = parts_end stood_of IsStanding any_text standing_fields stood_part c.args.effects.now
      (g.W.Writer.taken c.args.out.now) c.loop-done._done (g.W.Writer.taken c.loop-done.out) c.loop-done.invariant.0
      (omega (arith, c.loop-done-test.false, c.len-done-end.ensures.len));
}
