-- The walk over the structs of a file, from the top down: the first test that fails, or the tree.
use Rattle.std.specs.Prelude.{ℕ, zero, suc, ◌==◌, Bool, true, false, if◌then◌else◌, List, [], ◌∷◌, take, replicate, slice_index_or, slice_set, Result, Ok, Err}
use Rattle.gff_bytes.specs.declared.rows.Part.TheVariants as part
use Rattle.gff_bytes.specs.declared.rows.StructRow.{StructRow}
use Rattle.gff_bytes.specs.File.{count_of, struct_row}
use Rattle.gff_read.specs.declared.fault.TreeFault.{TreeFault}
use Rattle.gff_read.specs.declared.fault.TreeFault.TheVariants as fault
use Rattle.gff_tree.specs.Tree.{struct_depth_limit, PlainNode, PlainFields, PlainLeaf, PlainNodes, Struct, NoField, MoreFields, Child, Children, NoNode, MoreNodes}
use Rattle.gff_tree.specs.Whole.{PlainGff}
use Rattle.gff_read.specs.Rows.{◌>>=◌, placed, PlainRow, PlainShape, Value, One, Many, rows_of}

abbrev pub struct_count : List ℕ → ℕ
struct_count bytes = count_of bytes part.Struct

-- which structs were reached so far, by their numbers
abbrev pub Marks : Type 0
Marks = List Bool

-- how the struct of a number is read
abbrev pub Reading : Type 0
Reading = ℕ → Marks → Result (PlainNode × Marks) TreeFault

abbrev pub nodes_at : Reading → List ℕ → Marks → Result (PlainNodes × Marks) TreeFault
nodes_at one [] marks = Ok (NoNode, marks)
nodes_at one (n ∷ ns) marks = one n marks >>= λ first.
    (nodes_at one ns first.1 >>= λ rest. Ok (MoreNodes first.0 rest.0, rest.1))

abbrev pub leaf_at : Reading → PlainShape → Marks → Result (PlainLeaf × Marks) TreeFault
leaf_at one (Value holds) marks = Ok (holds, marks)
leaf_at one (One n) marks = one n marks >>= λ node. Ok (Child node.0, node.1)
leaf_at one (Many ns) marks = nodes_at one ns marks >>= λ nodes. Ok (Children nodes.0, nodes.1)

abbrev pub fields_at : Reading → List PlainRow → Marks → Result (PlainFields × Marks) TreeFault
fields_at one [] marks = Ok (NoField, marks)
fields_at one (row ∷ rows) marks =
    leaf_at one row.shape marks >>= λ first.
    (fields_at one rows first.1 >>= λ rest. Ok (MoreFields row.label first.0 rest.0, rest.1))

-- the tests at a struct, with so many levels left: its range, that it wasn't reached yet, its depth
unfoldable pub struct_entered : ℕ → List ℕ → ℕ → Marks → Result StructRow TreeFault
struct_entered depth bytes n marks =
    placed (struct_row bytes n) >>= λ row.
    (if slice_index_or marks n false then Err (fault.Shared n)
    else (if depth == 0 then Err (fault.Deep n) else Ok row))

-- the struct of a number, with so many levels left: it is entered, all its fields are read, then
-- the structs below it
unfoldable pub node_at : ℕ → List ℕ → Reading
node_at zero bytes n marks = struct_entered 0 bytes n marks >>= λ row. Err (fault.Deep n)
node_at (suc depth) bytes n marks =
    struct_entered (suc depth) bytes n marks >>= λ row.
    (rows_of bytes row >>= λ rows.
    (fields_at (node_at depth bytes) rows (slice_set marks n true) >>= λ fields. Ok
    (Struct row.kind fields.0, fields.1)))

-- the tree of a file, or the first test that fails
unfoldable pub tree_of : List ℕ → Result PlainGff TreeFault
tree_of bytes =
    node_at struct_depth_limit bytes 0 (replicate (struct_count bytes) false) >>= λ top. Ok
    (record { file_type = take 4 bytes; top = top.0 })
