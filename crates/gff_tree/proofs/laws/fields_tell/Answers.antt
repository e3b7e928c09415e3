use Rattle.gff_tree.proofs.FieldLaws as laws
use Rattle.gff_tree.proofs.laws.fields_tell.Goals as goal

pub returns : goal.returns
returns c = record {
  node = laws.node_is_its_fields;
  fields = laws.fields_are_the_nodes;
  list = laws.list_is_its_nodes;
  nodes = laws.nodes_are_the_lists;
  replaced = laws.replaced_is_sound;
  appended = laws.appended_is_sound;
  found = laws.found_is_sound;
  list_sound = laws.list_is_sound;
}
