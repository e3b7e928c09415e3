-- A tree of few bytes has few structs and fields, and one of more is too large for a file.
use Rattle.std.proofs.Common.{◌≡◌, ◌≤◌, ◌<◌, ◌+◌, ◌-◌, ◌^◌, ℕ, zero, suc, min, true, false, List, [], ◌∷◌, ◌++◌, length, length-append, get_or, drop, drop-cons, add-one, Ok, Err, nat_lt, refl, sym}
use Rattle.std.proofs.Common.{ap, subst, arith}
use Rattle.std.proofs.lemmas.Bool.Decides.{nat_tests}
use Rattle.nwq_value.specs.Limits.{file_limit}
use Rattle.gff_tree.specs.declared.tree.Field.{Field}
use Rattle.gff_tree.specs.declared.tree.Node.{Node}
use Rattle.gff_tree.specs.Tree.{PlainNode, PlainFields, PlainLeaf, PlainNodes, Struct, NoField, MoreFields, Holds, Child, Children, NoNode, MoreNodes, plain_node, plain_leaf, fields_list, nodes_list}
use Rattle.gff_tree.specs.Whole.{PlainGff}
use Rattle.gff_write.specs.declared.fault.WriteFault.TheVariants as fault
use Rattle.gff_write.specs.declared.flat.Entry.{Entry}
use Rattle.gff_write.specs.declared.flat.FlatStruct.{FlatStruct}
use Rattle.gff_tree.specs.Count.{node_count, fields_count, leaf_count, nodes_count}
use Rattle.gff_write.specs.Flat.{rows_of, rows_below, list_rows, tree_limit}
use Rattle.gff_write.specs.File.{field_count, outcome_of, written}
use Rattle.gff_write.specs.Size.{node_bytes, fields_bytes, leaf_bytes, nodes_bytes}
use Rattle.gff_write.proofs.FlatLemmas.{below_length, list_length}
use Rattle.gff_write.proofs.SizeLemmas.{entries_total, rows_total, node_total, written_length}

-- ---- counts

mutual
  pub node_few : (node : PlainNode) → node_count node ≤ node_bytes node
  node_few (Struct kind fields) = omega (arith, fields_few fields)

  fields_few : (fields : PlainFields) → fields_count fields ≤ fields_bytes fields
  fields_few NoField = omega arith
  fields_few (MoreFields label holds rest) = omega (arith, leaf_few holds, fields_few rest)

  leaf_few : (holds : PlainLeaf) → leaf_count holds ≤ leaf_bytes holds
  leaf_few (Holds scalar) = omega arith
  leaf_few (Child node) = node_few node
  leaf_few (Children nodes) = omega (arith, nodes_few nodes)

  nodes_few : (nodes : PlainNodes) → nodes_count nodes ≤ nodes_bytes nodes
  nodes_few NoNode = omega arith
  nodes_few (MoreNodes node rest) = omega (arith, node_few node, nodes_few rest)

entries_few : (entries : List Entry) → length entries ≤ entries_total entries
entries_few [] = omega arith
entries_few (entry ∷ entries) = omega (arith, entries_few entries)

rows_few : (rows : List FlatStruct) → field_count rows ≤ rows_total rows
rows_few [] = omega arith
rows_few (row ∷ rows) = omega (arith, entries_few row.fields, rows_few rows)

-- ---- what is left of a loop

pub field_within : (total : ℕ) (items : List Field) (i : ℕ) (item : Field) (whole : ℕ) → i < length items → item ≡ get_or items i item
    → total + fields_count (fields_list (drop i items)) ≡ whole → total + leaf_count (plain_leaf item.leaf) + fields_count (fields_list (drop (i + 1) items)) ≡ whole
field_within total items i item whole lt is before =
    let next : drop i items ≡ item ∷ drop (i + 1) items = rw (add-one, drop-cons items i item) (ap (λ (f : Field). f ∷ drop (suc i) items) (sym is)) in
    let at : total + (leaf_count (plain_leaf item.leaf) + fields_count (fields_list (drop (i + 1) items))) ≡ whole =
    subst (λ (fs : List Field). total + fields_count (fields_list fs) ≡ whole) next before in
    omega (arith, at)

few_left : (items : List Field) (i : ℕ) → fields_count (fields_list (drop i items)) ≤ fields_count (fields_list items)
few_left items zero = omega arith
few_left [] (suc i) = omega arith
few_left (item ∷ items) (suc i) = omega (arith, few_left items i)

pub field_few : (items : List Field) (i : ℕ) (item : Field) → i < length items → item ≡ get_or items i item → leaf_count (plain_leaf item.leaf) ≤ fields_count (fields_list items)
field_few items i item lt is = omega (arith, few_left items i, field_within 0 items i item (0 + fields_count (fields_list (drop i items))) lt is refl)

pub node_within : (total : ℕ) (items : List Node) (i : ℕ) (item : Node) (whole : ℕ) → i < length items → item ≡ get_or items i item
    → total + nodes_count (nodes_list (drop i items)) ≡ whole → total + node_count (plain_node item) + nodes_count (nodes_list (drop (i + 1) items)) ≡ whole
node_within total items i item whole lt is before =
    let next : drop i items ≡ item ∷ drop (i + 1) items = rw (add-one, drop-cons items i item) (ap (λ (n : Node). n ∷ drop (suc i) items) (sym is)) in
    let at : total + (node_count (plain_node item) + nodes_count (nodes_list (drop (i + 1) items))) ≡ whole =
    subst (λ (ns : List Node). total + nodes_count (nodes_list ns) ≡ whole) next before in
    omega (arith, at)

nodes_left : (items : List Node) (i : ℕ) → nodes_count (nodes_list (drop i items)) ≤ nodes_count (nodes_list items)
nodes_left items zero = omega arith
nodes_left [] (suc i) = omega arith
nodes_left (item ∷ items) (suc i) = omega (arith, nodes_left items i)

pub member_few : (items : List Node) (i : ℕ) (item : Node) → i < length items → item ≡ get_or items i item → node_count (plain_node item) ≤ nodes_count (nodes_list items)
member_few items i item lt is = omega (arith, nodes_left items i, node_within 0 items i item (0 + nodes_count (nodes_list (drop i items))) lt is refl)

pub pushed_long : (old now : List FlatStruct) (row : FlatStruct) → now ≡ old ++ row ∷ [] → length now ≡ length old + 1
pushed_long old now row pushed = omega (arith, ap length pushed, length-append old (row ∷ []))

-- so many structs stand behind those that were put
pub below_within : (rows initial : List FlatStruct) (items : List Field) (i : ℕ) (item : Field) → i < length items → item ≡ get_or items i item
    → rows ++ rows_below (length rows) (fields_list (drop i items)) ≡ initial ++ rows_below (length initial) (fields_list items)
    → length rows + leaf_count (plain_leaf item.leaf) ≤ length initial + fields_count (fields_list items)
below_within rows initial items i item lt is before =
    omega (
      arith,
      field_within (length rows) items i item (length rows + fields_count (fields_list (drop i items))) lt is refl,
      ap length before,
      length-append rows (rows_below (length rows) (fields_list (drop i items))),
      length-append initial (rows_below (length initial) (fields_list items)),
      below_length (length rows) (fields_list (drop i items)),
      below_length (length initial) (fields_list items),
    )

pub list_within : (rows initial : List FlatStruct) (items : List Node) (i : ℕ) (item : Node) → i < length items → item ≡ get_or items i item
    → rows ++ list_rows (length rows) (nodes_list (drop i items)) ≡ initial ++ list_rows (length initial) (nodes_list items)
    → length rows + node_count (plain_node item) ≤ length initial + nodes_count (nodes_list items)
list_within rows initial items i item lt is before =
    omega (
      arith,
      node_within (length rows) items i item (length rows + nodes_count (nodes_list (drop i items))) lt is refl,
      ap length before,
      length-append rows (list_rows (length rows) (nodes_list (drop i items))),
      length-append initial (list_rows (length initial) (nodes_list items)),
      list_length (length rows) (nodes_list (drop i items)),
      list_length (length initial) (nodes_list items),
    )

-- ---- the whole tree

-- a file that isn't too large has few structs and fields
node_within_file : (gff : PlainGff) → node_bytes gff.top ≤ length (written gff)
node_within_file gff = omega (arith, written_length gff)

pub few_structs : (gff : PlainGff) → length (written gff) ≤ file_limit → node_count gff.top ≤ tree_limit
few_structs gff small = omega (arith, node_within_file gff, node_few gff.top, small)

pub few_fields : (gff : PlainGff) → length (written gff) ≤ file_limit → field_count (rows_of 0 gff.top) ≤ tree_limit
few_fields gff small = omega (arith, node_within_file gff, rows_few (rows_of 0 gff.top), node_total 0 gff.top, small)

-- the size tells whether a file is too large
pub too_large : (bytes : List ℕ) (n : ℕ) → n ≡ min (length bytes) (2 ^ 64 - 1) → file_limit < n → outcome_of bytes ≡ Err (fault.Large n)
unfolding outcome_of
too_large bytes n is lt =
    let past : nat_lt file_limit (length bytes) ≡ true = grind (arith, nat_tests, is, lt) in
    rw past (ap (λ (m : ℕ). Err (fault.Large m)) (sym is))

pub within : (bytes : List ℕ) (n : ℕ) → n ≡ min (length bytes) (2 ^ 64 - 1) → n ≤ file_limit → length bytes ≤ file_limit
within bytes n is le = omega (arith, is, le)

pub fits : (bytes : List ℕ) → length bytes ≤ file_limit → outcome_of bytes ≡ Ok bytes
unfolding outcome_of
fits bytes le =
    let past : nat_lt file_limit (length bytes) ≡ false = grind (arith, nat_tests, le) in
    rw past refl
