use Rattle.std.proofs.Common.{◌<◌, length, map, sym, ap, ◌∙◌, arith}
use Rattle.std.proofs.lemmas.List.Filters.{FiltersInPlace-more_no, FiltersInPlace-more_swap, FiltersInPlace-all}
use Rattle.gff_tree.specs.Tree.{plain_node}
use Rattle.area_back.specs.Back.{is_kept}
use Rattle.area_back.proofs.BackLemmas.{kept_plain}
use Rattle.area_back.proofs.back.keep_entries.Goals.{then-stays, else-stays}
use Rattle.area_back.proofs.back.keep_entries.Goals as goal

pub loop-i-preserved : goal.loop-i-preserved
loop-i-preserved c =
    let lt : c.loop-i.i < length c.loop-i.entries.items = omega (arith, c.loop-i-test.true, c.len-i-end.ensures, c.loop-i.invariant.long) in
    elim c.if-stays.branch [
      | then-stays w ↦ rw (w.entries-is, w.kept-is) (FiltersInPlace-more_swap c.loop-i.invariant lt (sym c.stays.ensures ∙ w.if-stays.true) c.index.ensures w.swap.ensures.by_index)
      | else-stays w ↦ rw (w.entries-is, w.kept-is) (FiltersInPlace-more_no c.loop-i.invariant lt (sym c.stays.ensures ∙ w.if-stays.false) c.index.ensures)
    ]

pub returns : goal.returns
returns c =
    ap (map plain_node) (c.truncate.ensures.items ∙ FiltersInPlace-all c.loop-i.invariant (omega (arith, c.loop-i-test.false, c.len-i-end.ensures)))
    ∙ kept_plain (is_kept c.args.vars.now) c.args.entries.now.items
