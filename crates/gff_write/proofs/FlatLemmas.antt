-- How many structs a part of a tree has in preorder, and how a walk in preorder goes on.
use Rattle.std.proofs.Common.{◌≡◌, ◌<◌, ◌+◌, ℕ, suc, List, [], ◌∷◌, ◌++◌, length, get_or, drop, drop-cons, add-one, refl, sym, ap, subst, ◌∙◌, append_assoc, length-append, arith}
use Rattle.gff_tree.specs.declared.tree.Field.{Field}
use Rattle.gff_tree.specs.declared.tree.Node.{Node}
use Rattle.gff_tree.specs.Tree.{PlainNode, PlainFields, PlainLeaf, PlainNodes, Struct, NoField, MoreFields, Holds, Child, Children, NoNode, MoreNodes, plain_node, plain_leaf, fields_list, nodes_list}
use Rattle.gff_write.specs.declared.flat.Entry.{Entry}
use Rattle.gff_write.specs.declared.flat.FlatStruct.{FlatStruct}
use Rattle.gff_write.specs.File.{words_up}
use Rattle.gff_tree.specs.Count.{node_count, fields_count, leaf_count, nodes_count}
use Rattle.gff_write.specs.Flat.{word, rows_of, rows_below, leaf_rows, list_rows, entries_from}

mutual
  pub rows_length : (n : ℕ) (node : PlainNode) → length (rows_of n node) ≡ node_count node
  rows_length n (Struct kind fields) = omega (arith, below_length (n + 1) fields)

  pub below_length : (n : ℕ) (fields : PlainFields) → length (rows_below n fields) ≡ fields_count fields
  below_length n NoField = refl
  below_length n (MoreFields label holds rest) =
      omega (arith, length-append (leaf_rows n holds) (rows_below (n + leaf_count holds) rest), leaf_length n holds, below_length (n + leaf_count holds) rest)

  pub leaf_length : (n : ℕ) (holds : PlainLeaf) → length (leaf_rows n holds) ≡ leaf_count holds
  leaf_length n (Holds scalar) = refl
  leaf_length n (Child node) = rows_length n node
  leaf_length n (Children nodes) = list_length n nodes

  pub list_length : (n : ℕ) (nodes : PlainNodes) → length (list_rows n nodes) ≡ nodes_count nodes
  list_length n NoNode = refl
  list_length n (MoreNodes node rest) =
      omega (arith, length-append (rows_of n node) (list_rows (n + node_count node) rest), rows_length n node, list_length (n + node_count node) rest)

pub below_step : (rows now : List FlatStruct) (items : List Field) (i : ℕ) (item : Field) (whole : List FlatStruct) → i < length items → item ≡ get_or items i item →
    rows ++ rows_below (length rows) (fields_list (drop i items)) ≡ whole
    → now ≡ rows ++ leaf_rows (length rows) (plain_leaf item.leaf)
    → now ++ rows_below (length now) (fields_list (drop (i + 1) items)) ≡ whole
below_step rows now items i item whole lt is before grown =
    let next : drop i items ≡ item ∷ drop (i + 1) items = rw (add-one, drop-cons items i item) (ap (λ (f : Field). f ∷ drop (suc i) items) (sym is)) in
    let at : rows ++ (leaf_rows (length rows) (plain_leaf item.leaf) ++ rows_below (length rows + leaf_count (plain_leaf item.leaf)) (fields_list (drop (i + 1) items))) ≡ whole =
    subst (λ (fs : List Field). rows ++ rows_below (length rows) (fields_list fs) ≡ whole) next before in
    let long : length now ≡ length rows + leaf_count (plain_leaf item.leaf) =
    ap length grown ∙ (length-append rows (leaf_rows (length rows) (plain_leaf item.leaf)) ∙ ap (λ (k : ℕ). length rows + k) (leaf_length (length rows) (plain_leaf item.leaf))) in
    let rest = rows_below (length rows + leaf_count (plain_leaf item.leaf)) (fields_list (drop (i + 1) items)) in
    ap (λ (k : ℕ). now ++ rows_below k (fields_list (drop (i + 1) items))) long
    ∙ (ap (λ (rs : List FlatStruct). rs ++ rest) grown ∙ (append_assoc rows (leaf_rows (length rows) (plain_leaf item.leaf)) rest ∙ at))

pub list_step : (rows now : List FlatStruct) (items : List Node) (i : ℕ) (item : Node) (whole : List FlatStruct) → i < length items → item ≡ get_or items i item →
    rows ++ list_rows (length rows) (nodes_list (drop i items)) ≡ whole
    → now ≡ rows ++ rows_of (length rows) (plain_node item)
    → now ++ list_rows (length now) (nodes_list (drop (i + 1) items)) ≡ whole
list_step rows now items i item whole lt is before grown =
    let next : drop i items ≡ item ∷ drop (i + 1) items = rw (add-one, drop-cons items i item) (ap (λ (f : Node). f ∷ drop (suc i) items) (sym is)) in
    let at : rows ++ (rows_of (length rows) (plain_node item) ++ list_rows (length rows + node_count (plain_node item)) (nodes_list (drop (i + 1) items))) ≡ whole =
    subst (λ (fs : List Node). rows ++ list_rows (length rows) (nodes_list fs) ≡ whole) next before in
    let long : length now ≡ length rows + node_count (plain_node item) =
    ap length grown ∙ (length-append rows (rows_of (length rows) (plain_node item)) ∙ ap (λ (k : ℕ). length rows + k) (rows_length (length rows) (plain_node item))) in
    let rest = list_rows (length rows + node_count (plain_node item)) (nodes_list (drop (i + 1) items)) in
    ap (λ (k : ℕ). now ++ list_rows k (nodes_list (drop (i + 1) items))) long
    ∙ (ap (λ (rs : List FlatStruct). rs ++ rest) grown ∙ (append_assoc rows (rows_of (length rows) (plain_node item)) rest ∙ at))

pub node_done : (old pushed rows : List FlatStruct) (node : Node) (kind : ℕ) (entries : List Entry) (items : List Field) →
    rows ≡ pushed ++ rows_below (length pushed) (fields_list items) → pushed ≡ old ++ record { kind = kind; fields = entries } ∷ [] → entries ≡ entries_from (length old + 1) (fields_list items) →
    plain_node node ≡ Struct kind (fields_list items) → rows ≡ old ++ rows_of (length old) (plain_node node)
node_done old pushed rows node kind entries items walked grown read made =
    let row : FlatStruct = record { kind = kind; fields = entries } in
    let long : length pushed ≡ length old + 1 = ap length grown ∙ length-append old (row ∷ []) in
    let below = rows_below (length old + 1) (fields_list items) in
    let all : rows ≡ old ++ (row ∷ below) = walked
    ∙ (ap (λ (k : ℕ). pushed ++ rows_below k (fields_list items)) long
    ∙ (ap (λ (rs : List FlatStruct). rs ++ below) grown ∙ append_assoc old (row ∷ []) below)) in
    all ∙ (ap (λ (es : List Entry). old ++ (record { kind = kind; fields = es } ∷ below)) read ∙ ap (λ (x : PlainNode). old ++ rows_of (length old) x) (sym made))

-- one more field index is put
pub indices_step : (before now : List ℕ) (first next k j : ℕ) (whole : List ℕ) → before ++ words_up first k ≡ whole
    → k ≡ suc j → now ≡ before ++ word first → next ≡ first + 1 → now ++ words_up next j ≡ whole
indices_step before now first next k j whole so more grown up =
    let at : before ++ (word first ++ words_up (first + 1) j) ≡ whole = subst (λ (i : ℕ). before ++ words_up first i ≡ whole) more so in
    ap (λ (n : ℕ). now ++ words_up n j) up ∙ (ap (λ (bs : List ℕ). bs ++ words_up (first + 1) j) grown ∙ (append_assoc before (word first) (words_up (first + 1) j) ∙ at))

-- one more field is counted
pub field_counted : (total now : ℕ) (items : List Field) (i : ℕ) (item : Field) (whole : ℕ) → i < length items → item ≡ get_or items i item →
    total + fields_count (fields_list (drop i items)) ≡ whole → now ≡ total + leaf_count (plain_leaf item.leaf) → now + fields_count (fields_list (drop (i + 1) items)) ≡ whole
field_counted total now items i item whole lt is before grown =
    let next : drop i items ≡ item ∷ drop (i + 1) items = rw (add-one, drop-cons items i item) (ap (λ (f : Field). f ∷ drop (suc i) items) (sym is)) in
    let at : total + (leaf_count (plain_leaf item.leaf) + fields_count (fields_list (drop (i + 1) items))) ≡ whole =
    subst (λ (fs : List Field). total + fields_count (fields_list fs) ≡ whole) next before in
    omega (arith, at, grown)

-- one more struct of a list is counted
pub node_counted : (total now : ℕ) (items : List Node) (i : ℕ) (item : Node) (whole : ℕ) → i < length items → item ≡ get_or items i item →
    total + nodes_count (nodes_list (drop i items)) ≡ whole → now ≡ total + node_count (plain_node item) → now + nodes_count (nodes_list (drop (i + 1) items)) ≡ whole
node_counted total now items i item whole lt is before grown =
    let next : drop i items ≡ item ∷ drop (i + 1) items = rw (add-one, drop-cons items i item) (ap (λ (n : Node). n ∷ drop (suc i) items) (sym is)) in
    let at : total + (node_count (plain_node item) + nodes_count (nodes_list (drop (i + 1) items))) ≡ whole =
    subst (λ (ns : List Node). total + nodes_count (nodes_list ns) ≡ whole) next before in
    omega (arith, at, grown)
