-- How many bytes each section has, summed over the tree.
use Rattle.std.proofs.Common.{◌≡◌, ℕ, zero, suc, ◌+◌, ◌*◌, min, Bool, true, false, nat_lt, if◌then◌else◌, List, [], ◌∷◌, ◌++◌, length, refl, ap, arith, length-append}
use Rattle.std.specs.List.{flat_map}
use Rattle.gff_tree.specs.Tree as tree
use Rattle.gff_tree.specs.Tree.{Scalar, PlainNode, PlainFields, PlainLeaf, PlainNodes, Struct, NoField, MoreFields, Holds, Child, Children, NoNode, MoreNodes}
use Rattle.gff_write.specs.declared.flat.Entry.{Entry}
use Rattle.gff_tree.specs.Whole.{PlainGff}
use Rattle.gff_write.specs.declared.flat.FlatStruct.{FlatStruct}
use Rattle.gff_write.specs.declared.sections.Sections.{Sections}
use Rattle.gff_tree.specs.Count.{node_count, leaf_count}
use Rattle.gff_write.specs.Flat.{word, scalar_content, leaf_content, numbers_from, entries_from, rows_of, rows_below, leaf_rows, list_rows}
use Rattle.gff_write.specs.File.{joined, row_labels, data_of, list_of, label_index, third_of, entry_bytes, entries_data, entries_lists, entries_bytes, rows_data, rows_lists, rows_fields, words_up}
use Rattle.gff_write.specs.File.{indices_of, second_of, row_bytes, rows_indices, rows_structs, field_count, header_of, parts_of, written_rows, body_of, written}
use Rattle.gff_write.proofs.PlaceLemmas.{word_length}
use Rattle.gff_write.specs.Size.{capped, index_bytes, own_count, node_bytes, fields_bytes, leaf_bytes, nodes_bytes}

-- what fields put into the sections, labels aside
abbrev pub entries_total : List Entry → ℕ
entries_total [] = 0
entries_total (entry ∷ entries) = 12 + length (data_of entry.content) + length (list_of entry.content) + entries_total entries

-- what structs put into the sections, labels aside
abbrev pub rows_total : List FlatStruct → ℕ
rows_total [] = 0
rows_total (row ∷ rows) = 12 + index_bytes (length row.fields) + entries_total row.fields + rows_total rows

pub entry_length : (table : List (List ℕ)) (d l : ℕ) (entry : Entry) → length (entry_bytes table d l entry) ≡ 12
entry_length table d l entry =
    omega (
      arith,
      length-append (word entry.kind ++ word (label_index table entry.label)) (word (third_of d l entry.content)),
      length-append (word entry.kind) (word (label_index table entry.label)),
      word_length entry.kind,
      word_length (label_index table entry.label),
      word_length (third_of d l entry.content),
    )

entries_length : (table : List (List ℕ)) (d l : ℕ) (entries : List Entry)
    → length (entries_bytes table d l entries) + length (entries_data entries) + length (entries_lists entries)
    ≡ entries_total entries
entries_length table d l [] = refl
entries_length table d l (entry ∷ entries) =
    omega (
      arith,
      entry_length table d l entry,
      length-append (entry_bytes table d l entry) (entries_bytes table (d + length (data_of entry.content)) (l + length (list_of entry.content)) entries),
      length-append (data_of entry.content) (entries_data entries),
      length-append (list_of entry.content) (entries_lists entries),
      entries_length table (d + length (data_of entry.content)) (l + length (list_of entry.content)) entries,
    )

pub row_length : (first index : ℕ) (row : FlatStruct) → length (row_bytes first index row) ≡ 12
row_length first index row =
    omega (
      arith,
      length-append (word row.kind ++ word (second_of first index (length row.fields))) (word (length row.fields)),
      length-append (word row.kind) (word (second_of first index (length row.fields))),
      word_length row.kind,
      word_length (second_of first index (length row.fields)),
      word_length (length row.fields),
    )

pub up_length : (first count : ℕ) → length (words_up first count) ≡ 4 * count
up_length first zero = refl
up_length first (suc n) = omega (arith, length-append (word first) (words_up (first + 1) n), word_length first, up_length (first + 1) n)

indices_length : (first count : ℕ) → length (indices_of first count) ≡ index_bytes count
indices_length first count = by (nat_lt count 2)
  where
    by : (b : Bool) → length (if b then [] else words_up first count) ≡ (if b then 0 else 4 * count)
    by true = refl
    by false = up_length first count

sections_length : (table : List (List ℕ)) (first index d l : ℕ) (rows : List FlatStruct) →
    length (rows_structs first index rows) + length (rows_fields table d l rows) + length (rows_data rows) + length (rows_indices first rows) + length (rows_lists rows) ≡ rows_total rows
sections_length table first index d l [] = refl
sections_length table first index d l (row ∷ rows) =
    omega (
      arith,
      row_length first index row,
      indices_length first (length row.fields),
      entries_length table d l row.fields,
      length-append (row_bytes first index row) (rows_structs (first + length row.fields) (index + length (indices_of first (length row.fields))) rows),
      length-append (entries_bytes table d l row.fields) (rows_fields table (d + length (entries_data row.fields)) (l + length (entries_lists row.fields)) rows),
      length-append (entries_data row.fields) (rows_data rows),
      length-append (indices_of first (length row.fields)) (rows_indices (first + length row.fields) rows),
      length-append (entries_lists row.fields) (rows_lists rows),
      sections_length table (first + length row.fields) (index + length (indices_of first (length row.fields))) (d + length (entries_data row.fields)) (l + length (entries_lists row.fields)) rows,
    )

total_append : (front rows : List FlatStruct) → rows_total (front ++ rows) ≡ rows_total front + rows_total rows
total_append [] rows = omega arith
total_append (row ∷ front) rows = omega (arith, total_append front rows)

entries_count : (n : ℕ) (fields : PlainFields) → length (entries_from n fields) ≡ own_count fields
entries_count n NoField = refl
entries_count n (MoreFields label holds rest) = omega (arith, entries_count (n + leaf_count holds) rest)

no_list : (scalar : Scalar) → list_of (scalar_content scalar) ≡ []
no_list (tree.Byte n) = refl
no_list (tree.Char n) = refl
no_list (tree.Word n) = refl
no_list (tree.Short n) = refl
no_list (tree.Dword n) = refl
no_list (tree.Int n) = refl
no_list (tree.Dword64 n) = refl
no_list (tree.Int64 n) = refl
no_list (tree.Float bits) = refl
no_list (tree.Double bits) = refl
no_list (tree.Str text) = refl
no_list (tree.Res text) = refl
no_list (tree.Localized loc) = refl
no_list (tree.Void bytes) = refl

mutual
  pub node_total : (n : ℕ) (node : PlainNode) → rows_total (rows_of n node) ≡ node_bytes node
  node_total n (Struct kind fields) = omega (arith, ap index_bytes (entries_count (n + 1) fields), fields_total (n + 1) fields)

  fields_total : (n : ℕ) (fields : PlainFields) → entries_total (entries_from n fields) + rows_total (rows_below n fields) ≡ fields_bytes fields
  fields_total n NoField = refl
  fields_total n (MoreFields label holds rest) =
      omega (arith, leaf_total n holds, total_append (leaf_rows n holds) (rows_below (n + leaf_count holds) rest), fields_total (n + leaf_count holds) rest)

  leaf_total : (n : ℕ) (holds : PlainLeaf) → length (data_of (leaf_content n holds)) + length (list_of (leaf_content n holds)) + rows_total (leaf_rows n holds) ≡ leaf_bytes holds
  leaf_total n (Holds scalar) = omega (arith, ap length (no_list scalar))
  leaf_total n (Child node) = omega (arith, node_total n node)
  leaf_total n (Children nodes) =
      omega (arith, length-append (word (length (numbers_from n nodes))) (flat_map word (numbers_from n nodes)), word_length (length (numbers_from n nodes)), list_total n nodes)

  list_total : (n : ℕ) (nodes : PlainNodes) → length (flat_map word (numbers_from n nodes)) + rows_total (list_rows n nodes) ≡ nodes_bytes nodes
  list_total n NoNode = refl
  list_total n (MoreNodes node rest) =
      omega (
        arith,
        length-append (word n) (flat_map word (numbers_from (n + node_count node) rest)),
        word_length n,
        node_total n node,
        total_append (rows_of n node) (list_rows (n + node_count node) rest),
        list_total (n + node_count node) rest,
      )

-- ---- the whole file

header_length : (file_type : List ℕ) (s : Sections) (structs fields labels : ℕ) → length (header_of file_type s structs fields labels) ≡ length file_type + 52
unfolding header_of word
header_length file_type s structs fields labels = simp length-append (omega arith)

pub rows_length : (file_type : List ℕ) (rows : List FlatStruct) → length (written_rows file_type rows) ≡ length file_type + 52 + rows_total rows + length (joined (row_labels [] rows))
unfolding written_rows
rows_length file_type rows =
    let s : Sections = parts_of rows in
    let head : List ℕ = header_of file_type s (length rows) (field_count rows) (length (row_labels [] rows)) in
    omega (
      arith,
      length-append head (body_of s),
      header_length file_type s (length rows) (field_count rows) (length (row_labels [] rows)),
      length-append (s.structs ++ s.fields ++ s.labels ++ s.data_bytes ++ s.indices) s.lists,
      length-append (s.structs ++ s.fields ++ s.labels ++ s.data_bytes) s.indices,
      length-append (s.structs ++ s.fields ++ s.labels) s.data_bytes,
      length-append (s.structs ++ s.fields) s.labels,
      length-append s.structs s.fields,
      sections_length (row_labels [] rows) 0 0 0 0 rows,
    )

pub written_length : (gff : PlainGff) → length (written gff) ≡ length gff.file_type + 52 + node_bytes gff.top + length (joined (row_labels [] (rows_of 0 gff.top)))
written_length gff = omega (arith, rows_length gff.file_type (rows_of 0 gff.top), node_total 0 gff.top)

pub whole : (w h n j a b c d r : ℕ) → w ≡ h + n + j → d ≡ h → a ≡ capped n → b ≡ capped (d + a) → c ≡ capped j → r ≡ capped (b + c) → r ≡ min w 18446744073709551615
unfolding capped
whole w h n j a b c d r long head first second third fourth = omega (arith, long, head, first, second, third, fourth)
