use Rattle.std.proofs.Common.{arith, rules, refl}
use Rattle.std.proofs.lemmas.Bool.{iff_false}
use Rattle.stack_check.proofs.Fitting.{values_differ, values_end, values_step}
use Rattle.stack_check.proofs.fits.beneath_values.Goals as goal

pub loop-left-preserved : goal.loop-left-preserved
loop-left-preserved c = (
  values_step _ c.args.cells.now _ _ _ _ _ _ _ c.loop-left.invariant.0 c.in-Some-pop.ensures.top c.in-Some.ensures.cell
      (c.is_value_of.ensures.0 (search rules)) (omega (arith, c.loop-left-test.true)) refl,
  omega (arith, c.loop-left.invariant.1),
)

pub returns-in-None : goal.returns-in-None
returns-in-None c =
    values_end _ c.args.cells.now _ _ _ _ _ c.loop-left.invariant.0 c.in-None.ensures.top c.in-Some.ensures.cell (omega (arith, c.loop-left-test.true)) refl

pub returns-then-not-is_value_of : goal.returns-then-not-is_value_of
returns-then-not-is_value_of c =
    values_differ _ c.args.cells.now _ _ _ _ _ _ _ c.loop-left.invariant.0 c.in-Some-pop.ensures.top c.in-Some.ensures.cell
    (iff_false c.is_value_of.ensures (search rules)) (omega (arith, c.loop-left-test.true)) refl
