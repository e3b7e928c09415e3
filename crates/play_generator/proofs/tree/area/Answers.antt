use Rattle.std.proofs.Common.{ap, ◌∙◌}
use Rattle.gff_tree.specs.Tree.{is_sound}
use Rattle.play_generator.proofs.AreaLemmas.{area_sound}
use Rattle.play_generator.proofs.tree.area.Goals as goal

pub invariant_of-result : goal.invariant_of-result
invariant_of-result c = record { sound = ap is_sound c.in_ok-top.ensures ∙ area_sound c.fields_tell.ensures.list_sound c.args.creatures }
