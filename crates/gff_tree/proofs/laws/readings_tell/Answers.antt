use Rattle.gff_tree.proofs.NodeLemmas as lemmas
use Rattle.gff_tree.proofs.laws.readings_tell.Goals as goal

pub returns : goal.returns
returns c = record { node = lemmas.plain_node_out; list = lemmas.leaf_is_list }
