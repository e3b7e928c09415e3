use Rattle.std.proofs.Common.{ap, ◌∙◌}
use Rattle.std.specs.Vec.Iter.{into_iter_items}
use Rattle.gff_tree.specs.Tree.{plain_node, is_sound}
use Rattle.area_back.proofs.SoundLemmas.{TreeLaws, back_sound}
use Rattle.area_back.proofs.back.into_tree.Goals as goal

pub invariant_of-result : goal.invariant_of-result
invariant_of-result c =
    let laws : TreeLaws = record {
      node = c.fields_tell.ensures.node;
      fields = c.fields_tell.ensures.fields;
      list = c.fields_tell.ensures.list;
      nodes = c.fields_tell.ensures.nodes;
      replaced_sound = c.fields_tell.ensures.replaced;
      appended_sound = c.fields_tell.ensures.appended;
      found_sound = c.fields_tell.ensures.found;
      list_sound = c.fields_tell.ensures.list_sound;
    } in
    record { sound = ap is_sound c.in-Ok.ensures ∙ back_sound laws (into_iter_items c.into_iter-objects.result) (plain_node c.into_parts-tree.result.0.top) c.into_parts-tree.result.0.sound }
