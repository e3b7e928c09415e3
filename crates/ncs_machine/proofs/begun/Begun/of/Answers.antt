use Rattle.std.proofs.Common.{arith, ◌≤◌, ◌++◌, ◌∷◌, [], ◌∙◌, ap, length, min, w32}
use Rattle.std.proofs.lemmas.Int.{to_z-of_z}
use Rattle.machine_frames.specs.Tops.{int_in}
use Rattle.ncs_machine.specs.Remarks.{most_cells}
use Rattle.ncs_machine.proofs.BegunLemmas.{all_ints, few_ints, next_none, next_some, none_yet}
use Rattle.ncs_machine.proofs.begun.Begun.of.Goals.{in-None, in-Some}
use Rattle.ncs_machine.proofs.begun.Begun.of.Goals as goal

pub loop-i-init : goal.loop-i-init
loop-i-init c = none_yet _ _ c.spot_of.ensures.spot

pub put-requires : goal.put-requires
put-requires c = record {
  few = few_ints int_in _ _ c.loop-i.i _ c.loop-i.begun (omega (arith, c.min-cells.ensures)) c.loop-i-test.true c.loop-i.invariant;
}

pub loop-i-preserved : goal.loop-i-preserved
loop-i-preserved c =
    let inside : c.min-cells.result ≤ length c.args.frame.now.stack.cells = omega (arith, c.min-cells.ensures, c.height.ensures.count) in
    elim c.match-int_at.branch [
      | in-Some w ↦ next_some int_in _ _ c.loop-i.i c.args.frame.now.stack.cells c.loop-i.begun c.match-int_at.begun c.int_at.result w.in-Some.n inside c.loop-i-test.true
          c.loop-i.invariant c.int_at.ensures.int w.in-Some.is (w.begun-is ∙ w.put.ensures.put
          ∙ ap (λ n. record { spot = c.loop-i.begun.spot; ints = c.loop-i.begun.ints ++ n ∷ [] }) (to_z-of_z w32 w.in-Some.n (record { sfits = (rw w.in-Some.is at c.int_at.type_inv).1.1.1.1.0.1 })))
      | in-None w ↦ next_none int_in _ _ c.loop-i.i c.args.frame.now.stack.cells c.loop-i.begun c.match-int_at.begun c.int_at.result inside c.loop-i-test.true
          c.loop-i.invariant c.int_at.ensures.int w.in-None.is w.begun-is
    ]

pub returns : goal.returns
returns c = record {
  begun = all_ints int_in _ c.min-cells.result c.loop-i.i c.args.frame.now.stack.cells c.loop-i.begun
      (c.min-cells.ensures ∙ ap (λ h. min h most_cells) c.height.ensures.count) (omega (arith, c.loop-i-test.false)) c.loop-i.invariant;
}
