-- What the loops over the fields and the lists of a struct keep.
use Rattle.std.proofs.Common.{◌≡◌, ℕ, zero, suc, ◌-◌, Bool, true, false, cond, get_or, List, [], ◌∷◌, ◌++◌, map, Result, Ok, Err, refl, ap, subst, ◌∙◌, arith}
use Rattle.std.specs.Prelude.{slice_set}
use Rattle.gff_bytes.specs.declared.rows.StructRow.{StructRow}
use Rattle.gff_bytes.specs.File.{struct_row}
use Rattle.gff_read.specs.declared.fault.TreeFault.{TreeFault}
use Rattle.gff_read.specs.declared.fault.TreeFault.TheVariants as fault
use Rattle.gff_tree.specs.declared.tree.Field.{Field}
use Rattle.gff_tree.specs.declared.tree.Node.{Node}
use Rattle.gff_tree.specs.Tree.{PlainNode, PlainFields, PlainNodes, Struct, MoreFields, MoreNodes, plain_node, plain_leaf, plain_field, fields_before, nodes_before}
use Rattle.gff_read.specs.Rows.{◌>>=◌, TreeFails, placed, PlainRow, rows_of}
use Rattle.gff_read.proofs.RowLemmas.{fault_of}
use Rattle.gff_read.specs.Walk.{Marks, Reading, struct_entered, node_at, leaf_at, fields_at, nodes_at}

abbrev pub with_fields : List Field → Result (PlainFields × Marks) TreeFault → Result (PlainFields × Marks) TreeFault
with_fields front (Ok rest) = Ok (fields_before (map plain_field front) rest.0, rest.1)
with_fields front (Err e) = Err e

abbrev pub with_nodes : List Node → Result (PlainNodes × Marks) TreeFault → Result (PlainNodes × Marks) TreeFault
with_nodes front (Ok rest) = Ok (nodes_before (map plain_node front) rest.0, rest.1)
with_nodes front (Err e) = Err e

-- what follows at a struct that was entered
abbrev pub below : ℕ → List ℕ → ℕ → Marks → StructRow → Result (PlainNode × Marks) TreeFault
below depth bytes n marks row =
    rows_of bytes row >>= λ rows. (fields_at (node_at depth bytes) rows (slice_set marks n true) >>= λ fields. Ok (Struct row.kind fields.0, fields.1))

never_in : (read : Result StructRow TreeFault) (marked : Bool) (n : ℕ) (f g : StructRow → Result (PlainNode × Marks) TreeFault) →
    ((read >>= λ row. cond marked (Err (fault.Shared n)) (Err (fault.Deep n))) >>= f) ≡ ((read >>= λ row. cond marked (Err (fault.Shared n)) (Err (fault.Deep n))) >>= g)
never_in (Ok row) true n f g = refl
never_in (Ok row) false n f g = refl
never_in (Err e) marked n f g = refl

pub node_step : (depth : ℕ) (bytes : List ℕ) (n : ℕ) (marks : Marks) → node_at depth bytes n marks ≡ (struct_entered depth bytes n marks >>= below (depth - 1) bytes n marks)
unfolding node_at struct_entered
node_step zero bytes n marks = never_in (placed (struct_row bytes n)) (get_or marks n false) n (λ row. Err (fault.Deep n)) (below 0 bytes n marks)
node_step (suc depth) bytes n marks =
    let same : depth ≡ suc depth - 1 = omega arith in
    ap (λ (d : ℕ). struct_entered (suc depth) bytes n marks >>= below d bytes n marks) same

pub node_refused : (e : TreeFault) (depth : ℕ) (bytes : List ℕ) (n : ℕ) (marks : Marks) → TreeFails e (struct_entered depth bytes n marks) → TreeFails e (node_at depth bytes n marks)
node_refused e depth bytes n marks here =
    fault_of e (struct_entered depth bytes n marks) (node_at depth bytes n marks) here (λ failed. node_step depth bytes n marks ∙ rw failed refl)

pub node_rows_fail : (e : TreeFault) (depth : ℕ) (bytes : List ℕ) (n : ℕ) (marks : Marks) (row : StructRow)
    → struct_entered depth bytes n marks ≡ Ok row → TreeFails e (rows_of bytes row)
    → TreeFails e (node_at depth bytes n marks)
node_rows_fail e depth bytes n marks row in_row here =
    fault_of e (rows_of bytes row) (node_at depth bytes n marks) here (λ failed. node_step depth bytes n marks ∙ rw (in_row, failed) refl)

pub node_fields_fail : (e : TreeFault) (depth : ℕ) (bytes : List ℕ) (n : ℕ) (marks : Marks) (row : StructRow) (rows : List PlainRow) →
    struct_entered depth bytes n marks ≡ Ok row → rows_of bytes row ≡ Ok rows
    → TreeFails e (fields_at (node_at (depth - 1) bytes) rows (slice_set marks n true))
    → TreeFails e (node_at depth bytes n marks)
node_fields_fail e depth bytes n marks row rows in_row all here =
    fault_of e (fields_at (node_at (depth - 1) bytes) rows (slice_set marks n true)) (node_at depth bytes n marks) here (λ failed. node_step depth bytes n marks ∙ rw (in_row, all, failed) refl)

pub node_made : (depth : ℕ) (bytes : List ℕ) (n : ℕ) (marks after : Marks) (row : StructRow) (rows : List PlainRow) (fields : PlainFields) (node : PlainNode) →
    struct_entered depth bytes n marks ≡ Ok row → rows_of bytes row ≡ Ok rows
    → fields_at (node_at (depth - 1) bytes) rows (slice_set marks n true) ≡ Ok (fields, after)
    → node ≡ Struct row.kind fields →
    node_at depth bytes n marks ≡ Ok (node, after)
node_made depth bytes n marks after row rows fields node in_row all read made = node_step depth bytes n marks ∙ rw (in_row, all, read, made) refl

shift_fields : (front : List Field) (field : Field) (rest : Result (PlainFields × Marks) TreeFault) →
    with_fields (front ++ field ∷ []) rest ≡ with_fields front (rest >>= λ r. Ok (MoreFields field.label (plain_leaf field.leaf) r.0, r.1))
shift_fields front field (Ok r) = ap (λ (fields : PlainFields). Ok (fields, r.1)) (longer front)
  where
    longer : (fs : List Field) → fields_before (map plain_field (fs ++ field ∷ [])) r.0 ≡ fields_before (map plain_field fs) (MoreFields field.label (plain_leaf field.leaf) r.0)
    longer [] = refl
    longer (f ∷ fs) = ap (MoreFields f.label (plain_leaf f.leaf)) (longer fs)
shift_fields front field (Err e) = refl

shift_nodes : (front : List Node) (node : Node) (rest : Result (PlainNodes × Marks) TreeFault) →
    with_nodes (front ++ node ∷ []) rest ≡ with_nodes front (rest >>= λ r. Ok (MoreNodes (plain_node node) r.0, r.1))
shift_nodes front node (Ok r) = ap (λ (nodes : PlainNodes). Ok (nodes, r.1)) (longer front)
  where
    longer : (ns : List Node) → nodes_before (map plain_node (ns ++ node ∷ [])) r.0 ≡ nodes_before (map plain_node ns) (MoreNodes (plain_node node) r.0)
    longer [] = refl
    longer (m ∷ ms) = ap (MoreNodes (plain_node m)) (longer ms)
shift_nodes front node (Err e) = refl

pub fields_step : (one : Reading) (front now : List Field) (row : PlainRow) (rows rest : List PlainRow) (marks after : Marks) (field : Field) (whole : Result (PlainFields × Marks) TreeFault) →
    with_fields front (fields_at one rows marks) ≡ whole → rows ≡ row ∷ rest → leaf_at one row.shape marks ≡ Ok (plain_leaf field.leaf, after) → row.label ≡ field.label → now ≡ front ++ field ∷ [] →
    with_fields now (fields_at one rest after) ≡ whole
fields_step one front now row rows rest marks after field whole before more read label grown =
    let at : with_fields front (fields_at one (row ∷ rest) marks) ≡ whole = subst (λ (rs : List PlainRow). with_fields front (fields_at one rs marks) ≡ whole) more before in
    let opened : with_fields front (fields_at one rest after >>= λ r. Ok (MoreFields row.label (plain_leaf field.leaf) r.0, r.1)) ≡ whole = rw read at at in
    let named : with_fields front (fields_at one rest after >>= λ r. Ok (MoreFields field.label (plain_leaf field.leaf) r.0, r.1)) ≡ whole =
    subst (λ (l : List ℕ). with_fields front (fields_at one rest after >>= λ r. Ok (MoreFields l (plain_leaf field.leaf) r.0, r.1)) ≡ whole) label opened in
    rw grown (shift_fields front field (fields_at one rest after) ∙ named)

pub nodes_step : (one : Reading) (front now : List Node) (n : ℕ) (ns rest : List ℕ) (marks after : Marks) (node : Node) (whole : Result (PlainNodes × Marks) TreeFault) →
    with_nodes front (nodes_at one ns marks) ≡ whole → ns ≡ n ∷ rest → one n marks ≡ Ok (plain_node node, after) → now ≡ front ++ node ∷ [] →
    with_nodes now (nodes_at one rest after) ≡ whole
nodes_step one front now n ns rest marks after node whole before more read grown =
    let at : with_nodes front (nodes_at one (n ∷ rest) marks) ≡ whole = subst (λ (ms : List ℕ). with_nodes front (nodes_at one ms marks) ≡ whole) more before in
    let opened : with_nodes front (nodes_at one rest after >>= λ r. Ok (MoreNodes (plain_node node) r.0, r.1)) ≡ whole = rw read at at in
    rw grown (shift_nodes front node (nodes_at one rest after) ∙ opened)
