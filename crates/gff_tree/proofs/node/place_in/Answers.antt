use Rattle.std.proofs.Common.{sym, ap, ◌≡◌, true, ◌∙◌}
use Rattle.std.specs.Str.{bytes_eq}
use Rattle.gff_tree.proofs.NodeLemmas.{place_here}
use Rattle.gff_tree.proofs.node.place_in.Goals as goal

pub returns-then-eq : goal.returns-then-eq
returns-then-eq c =
    let same : bytes_eq c.args.label.now c.index-fields-i.result.label ≡ true =
    ap (bytes_eq c.args.label.now) (sym c.bytes.ensures.same) ∙ (sym c.eq.ensures ∙ c.if-eq.true) in
    place_here c.args.label.now c.args.fields.now c.loop-i.i c.index-fields-i.result _ c.loop-i-test.true c.index-fields-i.is same c.loop-i.invariant
