-- The rows of a tree's structs stand for the tree, each struct by its number in preorder.
use Rattle.std.proofs.Common.{◌≡◌, ◌≤◌, ◌<◌, ◌+◌, ◌%◌, ℕ, zero, suc, true, false, not, List, [], ◌∷◌, ◌++◌, map, length, Ok, Some, refl, sym, ap, subst, ◌∙◌, arith}
use Rattle.std.specs.Prelude.{nat_eq, nat_le, slice_get}
use Rattle.std.specs.List.{list_any, flat_map}
use Rattle.std.specs.Str.{bytes_eq}
use Rattle.std.proofs.lemmas.Bool.{le-leb, ne_eqb, cond-true, and_parts, and_from, or_from, not_from_false}
use Rattle.gff_bytes.specs.declared.rows.Part.TheVariants as part
use Rattle.gff_bytes.specs.declared.rows.StructRow.{StructRow}
use Rattle.gff_bytes.specs.File.{count_of, list_word}
use Rattle.gff_read.specs.declared.kind.FieldKind.{FieldKind}
use Rattle.gff_read.specs.declared.kind.FieldKind.TheVariants as kind
use Rattle.gff_read.specs.Rows.{PlainShape, PlainRow, Value, One, Many, kinds, field_number}
use Rattle.gff_read.specs.Stands.{ShapeStands, WordsStand, RowStands, RowsStand, NodesStand, LeafStands, FieldsStand, NodeStands}
use Rattle.gff_tree.specs.Tree.{PlainNode, PlainFields, PlainLeaf, PlainNodes, Struct, NoField, MoreFields, Holds, Child, Children, NoNode, MoreNodes, differ_after, are_distinct, labels_of}
use Rattle.gff_tree.specs.Tree.{is_sound_node, are_sound_fields, is_sound_leaf, are_sound_nodes}
use Rattle.gff_write.specs.declared.flat.FlatStruct.{FlatStruct}
use Rattle.gff_tree.specs.Count.{node_count, fields_count, leaf_count, nodes_count}
use Rattle.gff_write.specs.Flat.{word, padded, leaf_kind, leaf_content, numbers_from, entries_from, rows_of, rows_below, leaf_rows, list_rows}
use Rattle.gff_write.specs.Laws.{IsLabel, IsNode, AreFields, IsLeaf, AreNodes}
use Rattle.gff_write.proofs.FlatLemmas.{rows_length, leaf_length}
use Rattle.gff_write.proofs.LabelStands.{padded_text}
use Rattle.gff_write.proofs.PlaceLemmas.{word_length, word_stands, low_is}
use Rattle.gff_write.proofs.RowLemmas.{In, front_in, next_in, Small_counts, ContentAt, EntryAt, EntriesAt, RowsAt}
use Rattle.gff_write.proofs.ScalarLemmas.{kind_for, kind_read, scalar_stands}

-- so many numbers in a row
abbrev pub upto : ℕ → ℕ → List ℕ
upto n zero = []
upto n (suc count) = n ∷ upto (n + 1) count

upto_append : (n a b : ℕ) → upto n (a + b) ≡ upto n a ++ upto (n + a) b
upto_append n zero b =
    let same : zero + b ≡ b = omega arith in
    let spot : n ≡ n + zero = omega arith in
    ap (upto n) same ∙ ap (λ (k : ℕ). upto k b) spot
upto_append n (suc a) b =
    let same : suc a + b ≡ suc (a + b) = omega arith in
    let spot : n + 1 + a ≡ n + suc a = omega arith in
    ap (upto n) same ∙ ap (λ (ns : List ℕ). n ∷ ns) (upto_append (n + 1) a b ∙ ap (λ (k : ℕ). upto (n + 1) a ++ upto k b) spot)

abbrev AreBelow : ℕ → List ℕ → Type 0
AreBelow n [] = Unit {0}
AreBelow n (x ∷ xs) = (x < n) × AreBelow n xs

none_same : (n : ℕ) (first : List ℕ) → AreBelow n first → list_any (nat_eq n) first ≡ false
none_same n [] below = refl
none_same n (x ∷ xs) below =
    let less = below.0 in
    or_from (nat_eq n x) (list_any (nat_eq n) xs) (ne_eqb n x (λ (e : n ≡ x). omega arith)) (none_same n xs below.1)

below_more : (n : ℕ) (first : List ℕ) → AreBelow n first → AreBelow (n + 1) (first ++ n ∷ [])
below_more n [] below = (omega arith, tt)
below_more n (x ∷ xs) below = let less = below.0 in (omega arith, below_more n xs below.1)

pub upto_distinct : (count n : ℕ) (first : List ℕ) → AreBelow n first → differ_after nat_eq first (upto n count) ≡ true
upto_distinct zero n first below = refl
upto_distinct (suc count) n first below =
    and_from (not (list_any (nat_eq n) first)) (differ_after nat_eq (first ++ n ∷ []) (upto (n + 1) count))
    (not_from_false (list_any (nat_eq n) first) (none_same n first below)) (upto_distinct count (n + 1) (first ++ n ∷ []) (below_more n first below))

-- what the file's row of a field holds, by the struct's number that comes next
abbrev pub shape_of : ℕ → PlainLeaf → PlainShape
shape_of n (Holds scalar) = Value (Holds scalar)
shape_of n (Child node) = One n
shape_of n (Children nodes) = Many (numbers_from n nodes)

abbrev pub plain_rows : ℕ → PlainFields → List PlainRow
plain_rows n NoField = []
plain_rows n (MoreFields label holds rest) = record { label = label; shape = shape_of n holds } ∷ plain_rows (n + leaf_count holds) rest

rows_count : (n : ℕ) (fields : PlainFields) → length (plain_rows n fields) ≡ length (entries_from n fields)
rows_count n NoField = refl
rows_count n (MoreFields label holds rest) = ap suc (rows_count (n + leaf_count holds) rest)

rows_labels : (n : ℕ) (fields : PlainFields) → map (λ (row : PlainRow). row.label) (plain_rows n fields) ≡ labels_of fields
rows_labels n NoField = refl
rows_labels n (MoreFields label holds rest) = ap (λ (ls : List (List ℕ)). label ∷ ls) (rows_labels (n + leaf_count holds) rest)

node_positive : (node : PlainNode) → 1 ≤ node_count node
node_positive (Struct kind fields) = omega arith

abbrev kind_of_leaf : PlainLeaf → FieldKind
kind_of_leaf (Holds scalar) = kind_for scalar
kind_of_leaf (Child node) = kind.Struct
kind_of_leaf (Children nodes) = kind.List

leaf_kind_read : (holds : PlainLeaf) → slice_get kinds (leaf_kind holds % 4294967296) ≡ Some (kind_of_leaf holds)
leaf_kind_read (Holds scalar) = kind_read scalar
leaf_kind_read (Child node) = refl
leaf_kind_read (Children nodes) = refl

list_reads : {bytes : List ℕ} {offset : ℕ} (n : ℕ) → n < 4294967296 → In bytes part.List offset (word n) → list_word bytes offset ≡ Ok n
unfolding list_word
list_reads {bytes = bytes} {offset = offset} n low s =
    let room = s.room in
    let long = word_length n in
    let test : nat_le (offset + 4) (count_of bytes part.List) ≡ true = le-leb _ _ (omega arith) in
    cond-true _ _ _ test ∙ ap Ok (word_stands n s.at ∙ low_is n low)

abbrev AreLow : List ℕ → Type 0
AreLow [] = Unit {0}
AreLow (n ∷ ns) = (n < 4294967296) × AreLow ns

numbers_low : (n : ℕ) (nodes : PlainNodes) → n + nodes_count nodes ≤ 16777216 → AreLow (numbers_from n nodes)
numbers_low n NoNode room = tt
numbers_low n (MoreNodes node rest) room = let some = node_positive node in (omega arith, numbers_low (n + node_count node) rest (omega arith))

numbers_few : (n : ℕ) (nodes : PlainNodes) → length (numbers_from n nodes) ≤ nodes_count nodes
numbers_few n NoNode = omega arith
numbers_few n (MoreNodes node rest) = omega (arith, node_positive node, numbers_few (n + node_count node) rest)

numbers_stand : {bytes : List ℕ} (offset : ℕ) (ns : List ℕ) → AreLow ns → In bytes part.List offset (flat_map word ns) → WordsStand bytes offset ns
numbers_stand offset [] low s = tt
numbers_stand offset (n ∷ ns) low s =
    let long = word_length n in
    (list_reads n low.0 (front_in (word n) (flat_map word ns) s), numbers_stand (offset + 4) ns low.1 (next_in (offset + 4) (word n) (flat_map word ns) (omega arith) s))

shape_stands : (bytes : List ℕ) (small : Small_counts bytes) (depth n third : ℕ) (holds : PlainLeaf) → IsLeaf holds →
    is_sound_leaf depth holds ≡ true → n + leaf_count holds ≤ 16777216 → ContentAt bytes third (leaf_content n holds) →
    ShapeStands bytes (kind_of_leaf holds) third (shape_of n holds)
shape_stands bytes small depth n third (Holds scalar) is sound room at = scalar_stands bytes third scalar small is sound at
shape_stands bytes small depth n third (Child node) is sound room at =
    let some = node_positive node in
    (refl, sym (at ∙ low_is n (omega arith)))
shape_stands bytes small depth n third (Children nodes) is sound room at =
    let numbers = numbers_from n nodes in
    let few = numbers_few n nodes in
    let long = word_length (length numbers) in (
      refl,
      list_reads (length numbers) (omega arith) (front_in (word (length numbers)) (flat_map word numbers) at),
      numbers_stand (third + 4) numbers (numbers_low n nodes room) (next_in (third + 4) (word (length numbers)) (flat_map word numbers) (omega arith) at),
    )

row_stands : (bytes : List ℕ) (small : Small_counts bytes) (depth n field : ℕ) (label : List ℕ) (holds : PlainLeaf) → IsLabel label →
    IsLeaf holds → is_sound_leaf depth holds ≡ true → n + leaf_count holds ≤ 16777216 →
    EntryAt bytes field (record { label = padded label; kind = leaf_kind holds; content = leaf_content n holds }) → RowStands bytes field (record { label = label; shape = shape_of n holds })
row_stands bytes small depth n field label holds labelled is sound room e = record {
  entry = e.row;
  of_kind = kind_of_leaf holds;
  name = padded label;
  entry-is = e.row-is;
  kind-is = ap (slice_get kinds) e.kind ∙ leaf_kind_read holds;
  name-is = e.label;
  label = sym (padded_text label labelled);
  shape = shape_stands bytes small depth n e.row.word holds is sound room e.content;
}

-- the fields that a struct lists, from its i-th on
rows_stand : (bytes : List ℕ) (small : Small_counts bytes) (entry : StructRow) (first total depth i n : ℕ) (fields : PlainFields) →
    AreFields fields → are_sound_fields depth fields ≡ true → n + fields_count fields ≤ 16777216 →
    ((j : ℕ) → j < total → field_number bytes entry j ≡ Ok (first + j)) → i + length (entries_from n fields) ≡ total →
    EntriesAt bytes (first + i) (entries_from n fields) → RowsStand bytes entry i (plain_rows n fields)
rows_stand bytes small entry first total depth i n NoField are sound room numbered all at = tt
rows_stand bytes small entry first total depth i n (MoreFields label holds rest) are sound room numbered all at =
    let sounds = and_parts (is_sound_leaf depth holds) (are_sound_fields depth rest) sound in
    let spot : first + i + 1 ≡ first + (i + 1) = omega arith in (
      first + i,
      numbered i (omega arith),
      row_stands bytes small depth n (first + i) label holds are.0 are.1 sounds.0 (omega arith) at.0,
      rows_stand bytes small entry first total depth (i + 1) (n + leaf_count holds) rest are.2 sounds.1 (omega arith) numbered (omega arith)
          (subst (λ (k : ℕ). EntriesAt bytes k (entries_from (n + leaf_count holds) rest)) spot at.1),
    )

rows_split : (bytes : List ℕ) (n : ℕ) (xs ys : List FlatStruct) → RowsAt bytes n (xs ++ ys) → RowsAt bytes n xs × RowsAt bytes (n + length xs) ys
rows_split bytes n [] ys at = let same : n ≡ n + 0 = omega arith in (tt, subst (λ (k : ℕ). RowsAt bytes k ys) same at)
rows_split bytes n (x ∷ xs) ys at =
    let rest = rows_split bytes (n + 1) xs ys at.1 in
    let same : n + 1 + length xs ≡ n + suc (length xs) = omega arith in
    ((at.0, rest.0), subst (λ (k : ℕ). RowsAt bytes k ys) same rest.1)

-- the rows behind so many
rows_after : (bytes : List ℕ) (n count : ℕ) (xs ys : List FlatStruct) → length xs ≡ count → RowsAt bytes n (xs ++ ys) → RowsAt bytes (n + count) ys
rows_after bytes n count xs ys long at = subst (λ (k : ℕ). RowsAt bytes (n + k) ys) long (rows_split bytes n xs ys at).1

-- the structs of a tree use the numbers from n on, as many as there are structs
mutual
  pub node_stands : (bytes : List ℕ) (small : Small_counts bytes) (depth n : ℕ) (node : PlainNode) → is_sound_node depth node ≡ true →
      IsNode node → n + node_count node ≤ 16777216 → RowsAt bytes n (rows_of n node) →
      NodeStands depth bytes n node (upto n (node_count node))
  node_stands bytes small zero n (Struct kind fields) sound is room at = absurd cc
  node_stands bytes small (suc depth) n (Struct kind fields) sound is room at =
      let sounds = and_parts (are_distinct bytes_eq (labels_of fields)) (are_sound_fields depth fields) sound in
      let row = at.0 in
      let same : 1 + fields_count fields ≡ suc (fields_count fields) = omega arith in
      let start : row.first ≡ row.first + 0 = omega arith in
      record {
        entry = row.entry;
        rows = plain_rows (n + 1) fields;
        below = upto (n + 1) (fields_count fields);
        entry-is = row.entry-is;
        kind-is = row.kind ∙ low_is kind is.0;
        count = rows_count (n + 1) fields ∙ sym row.count;
        rows-stand = rows_stand bytes small row.entry row.first (length (entries_from (n + 1) fields)) depth 0 (n + 1) fields is.1 sounds.1 (omega arith) row.numbered (omega arith)
            (subst (λ (k : ℕ). EntriesAt bytes k (entries_from (n + 1) fields)) start row.fields);
        distinct = subst (λ (ls : List (List ℕ)). are_distinct bytes_eq ls ≡ true) (sym (rows_labels (n + 1) fields)) sounds.0;
        fields-stand = fields_stand bytes small depth (n + 1) fields sounds.1 is.1 (omega arith) at.1;
        uses-is = ap (upto n) same;
      }

  pub fields_stand : (bytes : List ℕ) (small : Small_counts bytes) (depth n : ℕ) (fields : PlainFields) →
      are_sound_fields depth fields ≡ true → AreFields fields → n + fields_count fields ≤ 16777216 →
      RowsAt bytes n (rows_below n fields) → FieldsStand (NodeStands depth bytes) (plain_rows n fields) fields (upto n (fields_count fields))
  fields_stand bytes small depth n NoField sound are room at = refl
  fields_stand bytes small depth n (MoreFields label holds rest) sound are room at =
      let sounds = and_parts (is_sound_leaf depth holds) (are_sound_fields depth rest) sound in
      let own = leaf_rows n holds in
      let more = rows_below (n + leaf_count holds) rest in (
        upto n (leaf_count holds),
        upto (n + leaf_count holds) (fields_count rest),
        refl,
        leaf_stands bytes small depth n holds sounds.0 are.1 (omega arith) (rows_split bytes n own more at).0,
        fields_stand bytes small depth (n + leaf_count holds) rest sounds.1 are.2 (omega arith) (rows_after bytes n (leaf_count holds) own more (leaf_length n holds) at),
        upto_append n (leaf_count holds) (fields_count rest),
      )

  pub leaf_stands : (bytes : List ℕ) (small : Small_counts bytes) (depth n : ℕ) (holds : PlainLeaf) → is_sound_leaf depth holds ≡ true →
      IsLeaf holds → n + leaf_count holds ≤ 16777216 →
      RowsAt bytes n (leaf_rows n holds) → LeafStands (NodeStands depth bytes) (shape_of n holds) holds (upto n (leaf_count holds))
  leaf_stands bytes small depth n (Holds scalar) sound is room at = (refl, refl)
  leaf_stands bytes small depth n (Child node) sound is room at = node_stands bytes small depth n node sound is room at
  leaf_stands bytes small depth n (Children nodes) sound is room at = nodes_stand bytes small depth n nodes sound is room at

  pub nodes_stand : (bytes : List ℕ) (small : Small_counts bytes) (depth n : ℕ) (nodes : PlainNodes) → are_sound_nodes depth nodes ≡ true →
      AreNodes nodes → n + nodes_count nodes ≤ 16777216 →
      RowsAt bytes n (list_rows n nodes) → NodesStand (NodeStands depth bytes) (numbers_from n nodes) nodes (upto n (nodes_count nodes))
  nodes_stand bytes small depth n NoNode sound are room at = refl
  nodes_stand bytes small depth n (MoreNodes node rest) sound are room at =
      let sounds = and_parts (is_sound_node depth node) (are_sound_nodes depth rest) sound in
      let own = rows_of n node in
      let more = list_rows (n + node_count node) rest in (
        upto n (node_count node),
        upto (n + node_count node) (nodes_count rest),
        node_stands bytes small depth n node sounds.0 are.0 (omega arith) (rows_split bytes n own more at).0,
        nodes_stand bytes small depth (n + node_count node) rest sounds.1 are.1 (omega arith) (rows_after bytes n (node_count node) own more (rows_length n node) at),
        upto_append n (node_count node) (nodes_count rest),
      )
