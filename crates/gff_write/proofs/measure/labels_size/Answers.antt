use Rattle.std.proofs.Common.{◌≡◌, ◌+◌, ◌≤◌, ◌∙◌, [], length, drop, sym, ap, subst}
use Rattle.std.proofs.lemmas.List.{drop_all}
use Rattle.gff_write.specs.File.{joined}
use Rattle.gff_write.specs.Size.{capped}
use Rattle.gff_write.proofs.CapLemmas.{labels_by, capped_small, end}
use Rattle.gff_write.proofs.measure.labels_size.Goals as goal

pub loop-label-preserved : goal.loop-label-preserved
loop-label-preserved c = record {
  sum =
      labels_by c.loop-label.total c.plus-total.result _ c.loop-label.label-index c.args.labels.now _ c.loop-label-test.true c.loop-label.invariant.sum
      (c.plus-total.ensures ∙ ap (λ n. capped (c.loop-label.total + n)) c.row_size.ensures.size);
  small = subst (λ n. n ≤ 18446744073709551615) (sym c.plus-total.ensures) (capped_small _);
}

pub returns : goal.returns
returns c =
    let none : drop c.loop-label.label-index c.args.labels.now ≡ [] = drop_all _ _ c.loop-label-test.false in
    end c.loop-label.total _ (subst (λ ls. capped (c.loop-label.total + length (joined ls)) ≡ capped (length (joined c.args.labels.now))) none c.loop-label.invariant.sum) c.loop-label.invariant.small
