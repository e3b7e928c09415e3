-- A file's tree as plain data.
use Rattle.std.specs.Prelude.{ℕ, List}
use Rattle.gff_tree.specs.declared.tree.Gff.{Gff}
use Rattle.gff_tree.specs.Tree.{PlainNode, plain_node}

-- a file: what kind of file it is, and its top struct
pub record PlainGff : Type 0 where
  pub file_type : List ℕ
  pub top : PlainNode

abbrev pub plain_gff : Gff → PlainGff
plain_gff gff = record { file_type = gff.file_type; top = plain_node gff.top }
