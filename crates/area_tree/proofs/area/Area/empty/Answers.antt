use Rattle.std.proofs.Common.{◌≡◌, refl, ap, ◌∙◌}
use Rattle.gff_tree.specs.Tree.{plain_node, is_sound}
use Rattle.area_rules.specs.Area.{empty_tree}
use Rattle.area_tree.proofs.AreaLemmas.{empty_sound}
use Rattle.area_tree.proofs.area.Area.empty.Goals as goal

pub invariant_of-result : goal.invariant_of-result
invariant_of-result c =
    let top : plain_node c.new-top.result ≡ empty_tree.top = c.new-top.ensures.node ∙ rw (c.new.ensures.items) refl in
    record { sound = ap is_sound top ∙ empty_sound }
