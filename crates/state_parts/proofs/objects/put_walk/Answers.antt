use Rattle.std.proofs.Common.{arith, ap, ◌∙◌, drop, List}
use Rattle.std.specs.Prelude.{slice_get}
use Rattle.local_variables.specs.Variables.{Variable, variable_of as variable_seen}
use Rattle.state_format.specs.Parts.{IsVariable}
use Rattle.state_format.specs.Fields.{variable_fields}
use Rattle.state_parts.specs.World.{variable_of}
use Rattle.state_parts.specs.Told.{variable_part}
use Rattle.state_parts.specs.Keeping.{any_text}
use Rattle.state_parts.proofs.Keeping.{seen_none, seen_some, got_within, first_left, left_more}
use Rattle.state_parts.specs.PuttingLemmas.{put_none, put_got, put_end, parts_end}
use Rattle.state_parts.proofs.objects.put_walk.Goals as goal

pub loop-done-init : goal.loop-done-init
loop-done-init g c = (put_none variable_of IsVariable any_text variable_fields variable_part c.args.vars.now (g.W.Writer.taken c.args.out.now), c.walk-walk.ensures.all)

pub loop-done-preserved : goal.loop-done-preserved
loop-done-preserved g c =
    let next = c.next.ensures.first ∙ ap (λ (l : List Variable). slice_get l 0) c.loop-done.invariant.1 ∙ first_left c.args.vars.now c.loop-done._done in (
      put_got variable_of IsVariable any_text variable_fields variable_part c.args.vars.now
          (g.W.Writer.taken c.args.out.now) c.loop-done._done (variable_seen c.in-Some.v)
          (g.W.Writer.taken c.loop-done.out) (g.W.Writer.taken c.put_variable.new.out)
          c.loop-done.invariant.0 c.in_ok-put_variable-in-Some.ensures.put c.in_ok-put_variable-in-Some.ensures.part
          (seen_some variable_seen c.args.vars.now c.loop-done._done c.next.result c.in-Some.v next c.in-Some.is),
      c.next.ensures.rest ∙ ap (λ (l : List Variable). drop 1 l) c.loop-done.invariant.1 ∙ left_more c.args.vars.now c.loop-done._done,
    )

pub unreachable-requires : goal.unreachable-requires
unreachable-requires g c =
    let next = c.next.ensures.first ∙ ap (λ (l : List Variable). slice_get l 0) c.loop-done.invariant.1 ∙ first_left c.args.vars.now c.loop-done._done in
    let past = got_within c.args.vars.now c.loop-done._done (seen_none variable_seen c.args.vars.now c.loop-done._done c.next.result next c.in-None.is) in
    omega (arith, past, c.loop-done-test.true, c.len-done-end.ensures.len)

pub returns : goal.returns
returns g c = record {
  put = put_end variable_of IsVariable any_text variable_fields variable_part c.args.vars.now
      (g.W.Writer.taken c.args.out.now) c.loop-done._done (g.W.Writer.taken c.loop-done.out) c.loop-done.invariant.0
      (omega (arith, c.loop-done-test.false, c.len-done-end.ensures.len));
  parts = parts_end variable_of IsVariable any_text variable_fields variable_part c.args.vars.now
      (g.W.Writer.taken c.args.out.now) c.loop-done._done (g.W.Writer.taken c.loop-done.out) c.loop-done.invariant.0
      (omega (arith, c.loop-done-test.false, c.len-done-end.ensures.len));
}
