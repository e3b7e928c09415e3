-- What comes of the bytes of a GFF file: the tree that they stand for, or the first test that
-- fails, which is never want of memory.
use Rattle.std.proofs.Common.{◌≡◌, ℕ, zero, suc, ◌+◌, ◌==◌, nat_lt, Bool, true, false, List, [], ◌∷◌, ◌++◌, length, drop, replicate, slice_get, Option, Some, None, Result, Ok, Err, sym, ◌∙◌}
use Rattle.std.specs.Prelude.{if◌then◌else◌, slice_index_or, slice_set}
use Rattle.gff_bytes.specs.declared.rows.Range.{Range}
use Rattle.gff_bytes.specs.declared.rows.StructRow.{StructRow}
use Rattle.gff_bytes.specs.File.{data_at, list_word, struct_row, field_row, label_row}
use Rattle.gff_read.specs.declared.fault.TreeFault.{TreeFault}
use Rattle.gff_read.specs.declared.fault.TreeFault.TheVariants as fault
use Rattle.gff_tree.specs.Tree.{struct_depth_limit}
use Rattle.gff_tree.specs.Tree as tree
use Rattle.gff_tree.specs.Whole.{PlainGff}
use Rattle.gff_read.specs.declared.kind.FieldKind.{FieldKind}
use Rattle.gff_read.specs.declared.kind.FieldKind.TheVariants as kind
use Rattle.gff_read.specs.Rows.{◌>>=◌, placed, bad_data, for_field, of_kind, kinds, number_in, bytes_for, number_for, counted_for, name_for, part_in, parts_in, localized_in, scalar_for, leaf_for}
use Rattle.gff_read.specs.Rows.{words_from, PlainShape, Value, One, Many, PlainRow, shape_for, has_label, row_for, field_number, rows_from, rows_of}
use Rattle.gff_read.specs.Walk.{Marks, Reading, struct_count, struct_entered, node_at, nodes_at, leaf_at, fields_at, tree_of}
use Rattle.gff_read.specs.Stands.{Stands}
use Rattle.gff_read.specs.Laws.{ReadTreesStand, TreesAreRead}

-- ---- tests that fail by themselves

-- a reading doesn't want memory
abbrev pub IsNamed : {A : Type 0} → Result A TreeFault → Type 0
IsNamed (Ok x) = Unit {0}
IsNamed (Err (fault.Range range)) = Unit {0}
IsNamed (Err (fault.Kind field)) = Unit {0}
IsNamed (Err (fault.Shared n)) = Unit {0}
IsNamed (Err (fault.Deep n)) = Unit {0}
IsNamed (Err (fault.Label field)) = Unit {0}
IsNamed (Err fault.NoMemory) = ⊥

then_named : {A B : Type 0} (r : Result A TreeFault) (f : A → Result B TreeFault) → IsNamed r → ((x : A) → IsNamed (f x)) → IsNamed (r >>= f)
then_named (Ok x) f h k = k x
then_named (Err (fault.Range range)) f h k = tt
then_named (Err (fault.Kind field)) f h k = tt
then_named (Err (fault.Shared n)) f h k = tt
then_named (Err (fault.Deep n)) f h k = tt
then_named (Err (fault.Label field)) f h k = tt
then_named (Err fault.NoMemory) f h k = absurd h

placed_named : {A : Type 0} (r : Result A Range) → IsNamed (placed r)
placed_named (Ok x) = tt
placed_named (Err range) = tt

field_named : {A : Type 0} (field : ℕ) (r : Result A Range) → IsNamed (for_field field r)
field_named field (Ok x) = tt
field_named field (Err range) = tt

either_named : {A : Type 0} (b : Bool) (r s : Result A TreeFault) → IsNamed r → IsNamed s → IsNamed (if b then r else s)
either_named true r s h k = h
either_named false r s h k = k

-- ---- values

module _ (bytes : List ℕ) (field : ℕ) where
  number_named : (place width : ℕ) → IsNamed (number_for bytes field place width)
  unfolding number_for
  number_named place width = then_named (bytes_for bytes field place width) _ (field_named field (data_at bytes place width)) (λ read. tt)

  counted_named : (place : ℕ) → IsNamed (counted_for bytes field place)
  unfolding counted_for
  counted_named place = then_named (number_for bytes field place 4) _ (number_named place 4) (λ count. field_named field (data_at bytes (place + 4) count))

  name_named : (place : ℕ) → IsNamed (name_for bytes field place)
  unfolding name_for
  name_named place =
      then_named (number_for bytes field place 1) _ (number_named place 1)
      (λ count. either_named (nat_lt tree.resource_limit count) (bad_data field) (bytes_for bytes field (place + 1) count) tt (field_named field (data_at bytes (place + 1) count)))

part_named : (field : ℕ) (bytes : List ℕ) → IsNamed (part_in field bytes)
unfolding part_in
part_named field bytes =
    either_named (nat_lt (length bytes) 8) (bad_data field) _ tt
    (either_named (nat_lt (length bytes) (8 + number_in 4 (drop 4 bytes))) (bad_data field) _ tt tt)

parts_named : (field n : ℕ) (bytes : List ℕ) → IsNamed (parts_in field n bytes)
parts_named field zero bytes = tt
parts_named field (suc n) bytes =
    then_named (part_in field bytes) _ (part_named field bytes) (λ p. then_named (parts_in field n p.1) _ (parts_named field n p.1) (λ parts. tt))

localized_named : (field : ℕ) (bytes : List ℕ) → IsNamed (localized_in field bytes)
unfolding localized_in
localized_named field bytes =
    either_named (nat_lt (length bytes) 8) (bad_data field) _ tt
    (then_named (parts_in field (number_in 4 (drop 4 bytes)) (drop 8 bytes)) _ (parts_named field (number_in 4 (drop 4 bytes)) (drop 8 bytes)) (λ parts. tt))

scalar_named : (bytes : List ℕ) (field : ℕ) (k : FieldKind) (word : ℕ) → IsNamed (scalar_for bytes field k word)
unfolding scalar_for
scalar_named bytes field kind.Byte word = tt
scalar_named bytes field kind.Char word = tt
scalar_named bytes field kind.Word word = tt
scalar_named bytes field kind.Short word = tt
scalar_named bytes field kind.Dword word = tt
scalar_named bytes field kind.Int word = tt
scalar_named bytes field kind.Dword64 word = then_named (number_for bytes field word 8) _ (number_named bytes field word 8) (λ n. tt)
scalar_named bytes field kind.Int64 word = then_named (number_for bytes field word 8) _ (number_named bytes field word 8) (λ n. tt)
scalar_named bytes field kind.Float word = tt
scalar_named bytes field kind.Double word = then_named (bytes_for bytes field word 8) _ (field_named field (data_at bytes word 8)) (λ bits. tt)
scalar_named bytes field kind.Str word = then_named (counted_for bytes field word) _ (counted_named bytes field word) (λ text. tt)
scalar_named bytes field kind.Res word = then_named (name_for bytes field word) _ (name_named bytes field word) (λ text. tt)
scalar_named bytes field kind.Loc word =
    then_named (counted_for bytes field word) _ (counted_named bytes field word) (λ body. then_named (localized_in field body) _ (localized_named field body) (λ loc. tt))
scalar_named bytes field kind.Void word = then_named (counted_for bytes field word) _ (counted_named bytes field word) (λ raw. tt)
scalar_named bytes field kind.Struct word = tt
scalar_named bytes field kind.List word = tt

leaf_named : (bytes : List ℕ) (field : ℕ) (k : FieldKind) (word : ℕ) → IsNamed (leaf_for bytes field k word)
unfolding leaf_for
leaf_named bytes field k word = then_named (scalar_for bytes field k word) _ (scalar_named bytes field k word) (λ s. tt)

words_named : (bytes : List ℕ) (place n : ℕ) → IsNamed (words_from bytes place n)
words_named bytes place zero = tt
words_named bytes place (suc n) =
    then_named (placed (list_word bytes place)) _ (placed_named (list_word bytes place)) (λ word. then_named (words_from bytes (place + 4) n) _ (words_named bytes (place + 4) n) (λ words. tt))

shape_named : (bytes : List ℕ) (field : ℕ) (k : FieldKind) (word : ℕ) → IsNamed (shape_for bytes field k word)
unfolding shape_for
shape_named bytes field kind.Struct word = tt
shape_named bytes field kind.List word =
    then_named (placed (list_word bytes word)) _ (placed_named (list_word bytes word))
    (λ count. then_named (words_from bytes (word + 4) count) _ (words_named bytes (word + 4) count) (λ words. tt))
shape_named bytes field k word = then_named (leaf_for bytes field k word) _ (leaf_named bytes field k word) (λ holds. tt)

kind_named : {A : Type 0} (field : ℕ) (k : Option FieldKind) (next : FieldKind → Result A TreeFault) → ((x : FieldKind) → IsNamed (next x)) → IsNamed (of_kind field k next)
kind_named field None next h = tt
kind_named field (Some k) next h = h k

row_named : (bytes : List ℕ) (rows : List PlainRow) (field : ℕ) → IsNamed (row_for bytes rows field)
unfolding row_for
row_named bytes rows field =
    then_named (placed (field_row bytes field)) _ (placed_named (field_row bytes field))
    (λ row. kind_named field (slice_get kinds row.kind) _
    (λ k. then_named (placed (label_row bytes row.label)) _ (placed_named (label_row bytes row.label))
    (λ label. either_named (has_label rows _) (Err (fault.Label field)) _ tt
    (then_named (shape_for bytes field k row.word) _ (shape_named bytes field k row.word) (λ holds. tt)))))

rows_named : (bytes : List ℕ) (row : StructRow) (i n : ℕ) (rows : List PlainRow) → IsNamed (rows_from bytes row i n rows)
rows_named bytes row i zero rows = tt
rows_named bytes row i (suc n) rows =
    then_named (placed (field_number bytes row i)) _ (placed_named (field_number bytes row i))
    (λ field. then_named (row_for bytes rows field) _ (row_named bytes rows field) (λ next. rows_named bytes row (i + 1) n (rows ++ next ∷ [])))

-- ---- structs

module _ (one : Reading) (each : (n : ℕ) (marks : Marks) → IsNamed (one n marks)) where
  nodes_named : (ns : List ℕ) (marks : Marks) → IsNamed (nodes_at one ns marks)
  nodes_named [] marks = tt
  nodes_named (n ∷ ns) marks =
      then_named (one n marks) _ (each n marks) (λ first. then_named (nodes_at one ns first.1) _ (nodes_named ns first.1) (λ rest. tt))

  below_named : (shape : PlainShape) (marks : Marks) → IsNamed (leaf_at one shape marks)
  below_named (Value holds) marks = tt
  below_named (One n) marks = then_named (one n marks) _ (each n marks) (λ node. tt)
  below_named (Many ns) marks = then_named (nodes_at one ns marks) _ (nodes_named ns marks) (λ nodes. tt)

  fields_named : (rows : List PlainRow) (marks : Marks) → IsNamed (fields_at one rows marks)
  fields_named [] marks = tt
  fields_named (row ∷ rows) marks =
      then_named (leaf_at one row.shape marks) _ (below_named row.shape marks) (λ first. then_named (fields_at one rows first.1) _ (fields_named rows first.1) (λ rest. tt))

entered_named : (depth : ℕ) (bytes : List ℕ) (n : ℕ) (marks : Marks) → IsNamed (struct_entered depth bytes n marks)
unfolding struct_entered
entered_named depth bytes n marks =
    then_named (placed (struct_row bytes n)) _ (placed_named (struct_row bytes n))
    (λ row. either_named (slice_index_or marks n false) (Err (fault.Shared n)) _ tt (either_named (depth == 0) (Err (fault.Deep n)) (Ok row) tt tt))

node_named : (depth : ℕ) (bytes : List ℕ) (n : ℕ) (marks : Marks) → IsNamed (node_at depth bytes n marks)
unfolding node_at rows_of
node_named zero bytes n marks = then_named (struct_entered 0 bytes n marks) _ (entered_named 0 bytes n marks) (λ row. tt)
node_named (suc depth) bytes n marks =
    then_named (struct_entered (suc depth) bytes n marks) _ (entered_named (suc depth) bytes n marks)
    (λ row. then_named (rows_of bytes row) _ (rows_named bytes row 0 row.count [])
    (λ rows. then_named (fields_at (node_at depth bytes) rows (slice_set marks n true)) _ (fields_named (node_at depth bytes) (node_named depth bytes) rows (slice_set marks n true)) (λ fields. tt)))

pub tree_named : (bytes : List ℕ) → IsNamed (tree_of bytes)
unfolding tree_of
tree_named bytes =
    then_named (node_at struct_depth_limit bytes 0 (replicate (struct_count bytes) false)) _ (node_named struct_depth_limit bytes 0 (replicate (struct_count bytes) false)) (λ top. tt)

-- ---- the tree

-- what is said of the walk and the tree that bytes stand for
pub record TreeLaws : Type 0 where
  pub read : TreesAreRead
  pub stand : ReadTreesStand

pub unread_stands_not : TreesAreRead → (bytes : List ℕ) (fails : TreeFault) → tree_of bytes ≡ Err fails → (gff : PlainGff) → Stands bytes gff → ⊥
unread_stands_not read bytes fails e gff s = let same : Ok gff ≡ Err fails = sym (read bytes gff s) ∙ e in absurd cc
