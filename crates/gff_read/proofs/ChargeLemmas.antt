-- What a tree is charged, part after part.
use Rattle.std.proofs.Common.{◌≡◌, ◌+◌, ◌++◌, ◌∷◌, [], ℕ, List, Result, Ok, Err, subst, arith}
use Rattle.gff_tree.specs.declared.tree.Field.{Field}
use Rattle.gff_tree.specs.declared.tree.Node.{Node}
use Rattle.gff_tree.specs.Tree.{Scalar, PlainLeaf, Holds, plain_leaf, plain_node, fields_list, nodes_list}
use Rattle.gff_read.specs.declared.fault.TreeFault.{TreeFault}
use Rattle.gff_read.specs.declared.kind.FieldKind.{FieldKind}
use Rattle.gff_read.specs.Rows.{◌>>=◌, PlainRow, leaf_for, scalar_for}
use Rattle.gff_read.specs.Charge.{IsScalar, field_charge, leaf_charge, word_charge, node_charge, fields_charge, nodes_charge, shape_charge, rows_charge}

pub rows_charge_push : (rows : List PlainRow) (row : PlainRow) → rows_charge (rows ++ row ∷ []) ≡ rows_charge rows + (field_charge + shape_charge row.shape)
rows_charge_push [] row = omega arith
rows_charge_push (first ∷ rows) row = omega (arith, rows_charge_push rows row)

pub fields_charge_push : (fields : List Field) (field : Field)
    → fields_charge (fields_list (fields ++ field ∷ []))
    ≡ fields_charge (fields_list fields) + (field_charge + leaf_charge (plain_leaf field.leaf))
fields_charge_push [] field = omega arith
fields_charge_push (first ∷ fields) field = omega (arith, fields_charge_push fields field)

pub nodes_charge_push : (nodes : List Node) (node : Node) → nodes_charge (nodes_list (nodes ++ node ∷ [])) ≡ nodes_charge (nodes_list nodes) + (word_charge + node_charge (plain_node node))
nodes_charge_push [] node = omega arith
nodes_charge_push (first ∷ nodes) node = omega (arith, nodes_charge_push nodes node)

abbrev given : PlainLeaf → Result PlainLeaf TreeFault
given holds = Ok holds

from_scalar : (read : Result Scalar TreeFault) (holds : PlainLeaf) → (read >>= λ s. Ok (Holds s)) ≡ given holds → IsScalar holds
from_scalar (Ok s) holds e =
    let is : Holds s ≡ holds = cc in
    subst IsScalar is tt
from_scalar (Err fault) holds e = absurd cc

-- the value of a field that holds no struct holds none
pub leaf_is_scalar : (bytes : List ℕ) (field : ℕ) (k : FieldKind) (word : ℕ) (holds : PlainLeaf) → leaf_for bytes field k word ≡ given holds → IsScalar holds
unfolding leaf_for
leaf_is_scalar bytes field k word holds e = from_scalar (scalar_for bytes field k word) holds e
