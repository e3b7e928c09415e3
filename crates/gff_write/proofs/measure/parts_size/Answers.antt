use Rattle.std.proofs.Common.{◌≡◌, ◌+◌, ◌≤◌, ◌∙◌, [], length, drop, sym, ap, subst}
use Rattle.std.proofs.lemmas.List.{drop_all}
use Rattle.std.specs.List.{flat_map}
use Rattle.gff_write.specs.Flat.{part_bytes}
use Rattle.gff_write.specs.Size.{capped}
use Rattle.gff_write.proofs.CapLemmas.{parts_turn, capped_small, end}
use Rattle.gff_write.proofs.measure.parts_size.Goals as goal

pub loop-part-preserved : goal.loop-part-preserved
loop-part-preserved c = record {
  sum =
      parts_turn c.loop-part.total c.plus.result c.plus-total.result _ c.loop-part.part-index c.args.parts.now c.part-item.result c.loop-part-test.true c.part-item.is
      c.loop-part.invariant.sum c.plus.ensures (c.plus-total.ensures ∙ ap (λ n. capped (c.plus.result + n)) c.len.ensures.len);
  small = subst (λ n. n ≤ 18446744073709551615) (sym c.plus-total.ensures) (capped_small _);
}

pub returns : goal.returns
returns c =
    let none : drop c.loop-part.part-index c.args.parts.now ≡ [] = drop_all _ _ c.loop-part-test.false in
    end c.loop-part.total _ (subst
    (λ ps. capped (c.loop-part.total + length (flat_map part_bytes ps))
    ≡ capped (12 + length (flat_map part_bytes c.args.parts.now))) none c.loop-part.invariant.sum) c.loop-part.invariant.small
