use Rattle.std.proofs.Common.{◌∷◌, w32, rules}
use Rattle.std.proofs.lemmas.Int.{to_z-of_z}
use Rattle.std.specs.Fmt.{signed_decimal}
use Rattle.nwq_text.proofs.Appended.{one_more, all_appended, refused_after}
use Rattle.nwq_text.proofs.value.put_further_ints.Goals as goal

pub loop-n-preserved : goal.loop-n-preserved
loop-n-preserved c =
    one_more (λ y. 44 ∷ signed_decimal y) _ c.loop-n.out.items _ c.args.ints.now c.loop-n.n-index _ _ c.loop-n-test.true (to_z-of_z w32 _ (search rules))
    c.loop-n.invariant c.in_ok-put_further_int.ensures.ok

pub returns-in_err-put_further_int : goal.returns-in_err-put_further_int
returns-in_err-put_further_int c =
    let both = refused_after c.from_residual.result _ _ _ c.loop-n.out.items _ c.from_residual.ensures.0 c.loop-n.invariant
    c.in_err-put_further_int.ensures.err
    in record { ok = both.0; err = both.1 }

pub returns : goal.returns
returns c =
    record {
      ok = all_appended (λ y. 44 ∷ signed_decimal y) _ _ c.args.ints.now c.loop-n.n-index c.loop-n-test.false c.loop-n.invariant;
      err = tt;
    }
