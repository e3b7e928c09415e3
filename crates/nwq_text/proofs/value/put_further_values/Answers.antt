use Rattle.std.proofs.Common.{◌∷◌}
use Rattle.nwq_text.specs.Values.{value_text}
use Rattle.nwq_text.proofs.Appended.{one_more, all_appended, refused_after}
use Rattle.nwq_text.proofs.value.put_further_values.Goals as goal

pub loop-value-preserved : goal.loop-value-preserved
loop-value-preserved c =
    one_more (λ y. 44 ∷ value_text y) _ c.loop-value.out.items _ c.args.values.now c.loop-value.value-index _ _ c.loop-value-test.true
    c.value-item.is c.loop-value.invariant c.in_ok-put_further_value.ensures.ok

pub returns-in_err-put_further_value : goal.returns-in_err-put_further_value
returns-in_err-put_further_value c =
    let both = refused_after c.from_residual.result _ _ _ c.loop-value.out.items _ c.from_residual.ensures.0 c.loop-value.invariant
    c.in_err-put_further_value.ensures.err
    in record { ok = both.0; err = both.1 }

pub returns : goal.returns
returns c =
    record {
      ok = all_appended (λ y. 44 ∷ value_text y) _ _ c.args.values.now c.loop-value.value-index c.loop-value-test.false c.loop-value.invariant;
      err = tt;
    }
