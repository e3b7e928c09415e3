use Rattle.std.proofs.Common.{◌∙◌, ◌++◌, ap, arith, List, ℕ}
use Rattle.ncs_emit.proofs.Putting.{met, moved, put_begins, put_op, put_jump_line, put_label, place_known, place_inside}
use Rattle.ncs_emit.proofs.finishing.put_lines.Goals as goal
use Rattle.ncs_emit.proofs.finishing.put_lines.Goals.{in-Instruction+in_ok-extend_from_slice-in-Instruction, in-Jump+in_ok-put_jump-in-Jump, in-Label}

pub loop-line-init : goal.loop-line-init
loop-line-init c = put_begins _ _ _ _ _ c.requires.begun c.requires.fits c.requires.whole

pub put_jump-requires-clause-near : goal.put_jump-requires-clause-near
put_jump-requires-clause-near c =
    let inside = place_inside _ _ _ c.in-Jump.label c.requires.whole c.requires.placed in
    omega (arith, inside, c.unwrap_or-place.ensures, c.requires.bounded)

pub loop-line-preserved : goal.loop-line-preserved
loop-line-preserved c =
    elim c.match-line.branch [
      | in-Instruction+in_ok-extend_from_slice-in-Instruction w ↦
          let seen = met c.args.kept.now c.loop-line.line-index _ _ w.in-Instruction.is c.loop-line-test.true in
          let file = ap (λ v. v.items) w.file-is ∙ w.in_ok-extend_from_slice-in-Instruction.ensures.items ∙ ap (λ (t : List ℕ). c.loop-line.file.items ++ t) w.split_at.ensures.front in
          let rest = ap (λ r. r.now) w.rest-is ∙ w.split_at.ensures.back in
          moved _ _ _ _ _ _ _ _ _ (put_op c.size_laws.ensures.sizes.op _ _ _ _ _ _ _ _ w.in-Instruction.count c.loop-line.invariant seen) file rest
      | in-Jump+in_ok-put_jump-in-Jump w ↦
          let seen = met c.args.kept.now c.loop-line.line-index _ _ w.in-Jump.is c.loop-line-test.true in
          let place = w.unwrap_or-place.ensures ∙ place_known _ c.args.size _ _ c.args.places.now w.in-Jump.label c.requires.fits c.requires.placed in
          let file = ap (λ v. v.items) w.file-is ∙ w.in_ok-put_jump-in-Jump.ensures in
          moved _ _ _ _ _ _ _ _ _ (put_jump_line c.size_laws.ensures.sizes.op _ _ _ _ _ _ _ _ w.in-Jump.jump w.in-Jump.label _ c.loop-line.invariant seen place) file (ap (λ r. r.now) w.rest-is)
      | in-Label w ↦
          let seen = met c.args.kept.now c.loop-line.line-index _ _ w.in-Label.is c.loop-line-test.true in
          moved _ _ _ _ _ _ _ _ _ (put_label _ _ _ _ _ _ _ _ _ c.loop-line.invariant seen) (ap (λ v. v.items) w.file-is) (ap (λ r. r.now) w.rest-is)
    ]
