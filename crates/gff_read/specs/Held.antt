-- The rows that the walk keeps of a struct before it goes down, as the plain rows that the
-- definitions speak of.
use Rattle.gff_read.specs.declared.row.Shape.{Shape}
use Rattle.gff_read.specs.declared.row.Shape.TheVariants as shape
use Rattle.gff_read.specs.declared.row.FieldRow.{FieldRow}
use Rattle.gff_tree.specs.Tree.{plain_leaf}
use Rattle.gff_read.specs.Rows.{PlainShape, PlainRow, Value, One, Many}

abbrev pub plain_shape : Shape → PlainShape
plain_shape (shape.Value holds) = Value (plain_leaf holds)
plain_shape (shape.One n) = One n
plain_shape (shape.Many ns) = Many ns.items

abbrev pub plain_row : FieldRow → PlainRow
plain_row row = record { label = row.label; shape = plain_shape row.shape }
