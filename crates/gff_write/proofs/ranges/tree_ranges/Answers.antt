use Rattle.gff_write.proofs.ranges.tree_ranges.Goals as goal

pub returns : goal.returns
returns c = record { file_type = c.type_length.ensures; ranges = c.node_ranges.ensures; sound = c.args.tree.now.sound }
