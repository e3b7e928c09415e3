-- What bytes stand for is sound: not too deep, with distinct labels and short names.
use Rattle.std.proofs.Common.{◌≡◌, ◌≤◌, ◌+◌, ℕ, zero, suc, Bool, true, false, cond, ◌&&◌, List, [], ◌∷◌, length, take, drop, Ok, Err, refl, ap, subst, ◌∙◌, arith}
use Rattle.std.specs.Prelude.{nat_le}
use Rattle.std.specs.Str.{bytes_eq}
use Rattle.std.proofs.lemmas.Bool.{le-leb}
use Rattle.std.proofs.lemmas.List.{length-take}
use Rattle.gff_bytes.specs.declared.rows.Range.{Range}
use Rattle.gff_bytes.specs.declared.rows.Part.TheVariants as part
use Rattle.gff_bytes.specs.declared.rows.StructRow.{StructRow}
use Rattle.gff_bytes.specs.File.{data_at, count_of, start_of}
use Rattle.gff_read.specs.declared.kind.FieldKind.{FieldKind}
use Rattle.gff_read.specs.declared.kind.FieldKind.TheVariants as kind
use Rattle.gff_tree.specs.Tree.{Scalar, PlainNode, PlainFields, PlainLeaf, PlainNodes, Struct, NoField, MoreFields, Holds, Child, Children, NoNode, MoreNodes, labels_of, are_distinct}
use Rattle.gff_tree.specs.Tree.{is_sound_scalar, is_sound_node, are_sound_fields, is_sound_leaf, are_sound_nodes, is_sound}
use Rattle.gff_read.specs.Rows.{PlainShape, PlainRow, Value, One, Many}
use Rattle.gff_read.specs.Stands.{ScalarStands, ShapeStands, RowsStand, Meaning, NodesStand, LeafStands, FieldsStand, NodeStands}
use Rattle.gff_read.proofs.RowLaws.{labels}

data_short : (bytes : List ℕ) (place count : ℕ) (text : List ℕ) → data_at bytes place count ≡ Ok text → length text ≤ count
unfolding data_at
data_short bytes place count text e = by_test (nat_le (place + count) (count_of bytes part.Data))
    (take count (drop (start_of bytes part.Data + place) bytes)) _ e
    (omega (arith, length-take count (drop (start_of bytes part.Data + place) bytes)))
  where
    by_test : (b : Bool) (read : List ℕ) (range : Range) → cond b (Ok read) (Err range) ≡ Ok text → length read ≤ count → length text ≤ count
    by_test true read range h short = let is : read ≡ text = cc in subst (λ (t : List ℕ). length t ≤ count) is short
    by_test false read range h short = absurd cc

made_sound : (s t : Scalar) → s ≡ t → is_sound_scalar t ≡ true → is_sound_scalar s ≡ true
made_sound s t is sound = ap is_sound_scalar is ∙ sound

scalar_sound : (bytes : List ℕ) (k : FieldKind) (word : ℕ) (s : Scalar) → ScalarStands bytes k word s → is_sound_scalar s ≡ true
scalar_sound bytes kind.Byte word s is = made_sound s _ is refl
scalar_sound bytes kind.Char word s is = made_sound s _ is refl
scalar_sound bytes kind.Word word s is = made_sound s _ is refl
scalar_sound bytes kind.Short word s is = made_sound s _ is refl
scalar_sound bytes kind.Dword word s is = made_sound s _ is refl
scalar_sound bytes kind.Int word s is = made_sound s _ is refl
scalar_sound bytes kind.Dword64 word s is = made_sound s _ is.2 refl
scalar_sound bytes kind.Int64 word s is = made_sound s _ is.2 refl
scalar_sound bytes kind.Float word s is = made_sound s _ is refl
scalar_sound bytes kind.Double word s is = made_sound s _ is.2 refl
scalar_sound bytes kind.Str word s is = made_sound s _ is.3 refl
scalar_sound bytes kind.Res word s is =
    let short : length is.1 ≤ 16 = omega (arith, data_short bytes (word + 1) is.0 is.1 is.2.1, is.3) in
    made_sound s _ is.4 (le-leb _ _ short)
scalar_sound bytes kind.Loc word s is = made_sound s _ is.5 refl
scalar_sound bytes kind.Void word s is = made_sound s _ is.3 refl
scalar_sound bytes kind.Struct word s is = absurd is
scalar_sound bytes kind.List word s is = absurd is

abbrev sound_shape : PlainShape → Bool
sound_shape (Value (Holds s)) = is_sound_scalar s
sound_shape (Value (Child node)) = false
sound_shape (Value (Children nodes)) = false
sound_shape (One n) = true
sound_shape (Many ns) = true

abbrev SoundRows : List PlainRow → Type 0
SoundRows [] = Unit {0}
SoundRows (row ∷ rows) = (sound_shape row.shape ≡ true) × SoundRows rows

shape_sound : (bytes : List ℕ) (k : FieldKind) (word : ℕ) (s : PlainShape) → ShapeStands bytes k word s → sound_shape s ≡ true
shape_sound bytes k word (Value (Holds s)) is = scalar_sound bytes k word s is
shape_sound bytes k word (Value (Child node)) is = absurd is
shape_sound bytes k word (Value (Children nodes)) is = absurd is
shape_sound bytes k word (One n) is = refl
shape_sound bytes k word (Many ns) is = refl

rows_sound : (bytes : List ℕ) (entry : StructRow) (i : ℕ) (rows : List PlainRow) → RowsStand bytes entry i rows → SoundRows rows
rows_sound bytes entry i [] s = tt
rows_sound bytes entry i (row ∷ rows) s = (shape_sound bytes s.2.of_kind s.2.entry.word row.shape s.2.shape, rows_sound bytes entry (i + 1) rows s.3)

and_true : (a b : Bool) → a ≡ true → b ≡ true → (a && b) ≡ true
and_true a b p q = rw (p, q) refl

record SoundBelow (depth : ℕ) (stands : Meaning) : Type 0 where
  by : (n : ℕ) (node : PlainNode) (uses : List ℕ) → stands n node uses → is_sound_node depth node ≡ true

nodes_sound : (depth : ℕ) (stands : Meaning) → SoundBelow depth stands → (ns : List ℕ) (nodes : PlainNodes) (uses : List ℕ) → NodesStand stands ns nodes uses → are_sound_nodes depth nodes ≡ true
nodes_sound depth stands sound [] NoNode uses s = refl
nodes_sound depth stands sound [] (MoreNodes node nodes) uses s = absurd s
nodes_sound depth stands sound (n ∷ ns) NoNode uses s = absurd s
nodes_sound depth stands sound (n ∷ ns) (MoreNodes node nodes) uses s = and_true _ _ (sound.by n node s.0 s.2) (nodes_sound depth stands sound ns nodes s.1 s.3)

leaf_sound : (depth : ℕ) (stands : Meaning) → SoundBelow depth stands
    → (shape : PlainShape) (holds : PlainLeaf) (uses : List ℕ) → sound_shape shape ≡ true
    → LeafStands stands shape holds uses → is_sound_leaf depth holds ≡ true
leaf_sound depth stands sound (Value (Holds s')) holds uses ok s = ap (is_sound_leaf depth) s.0 ∙ ok
leaf_sound depth stands sound (Value (Child node)) holds uses ok s = absurd cc
leaf_sound depth stands sound (Value (Children nodes)) holds uses ok s = absurd cc
leaf_sound depth stands sound (One n) (Child node) uses ok s = sound.by n node uses s
leaf_sound depth stands sound (One n) (Holds s') uses ok s = absurd s
leaf_sound depth stands sound (One n) (Children nodes) uses ok s = absurd s
leaf_sound depth stands sound (Many ns) (Children nodes) uses ok s = nodes_sound depth stands sound ns nodes uses s
leaf_sound depth stands sound (Many ns) (Holds s') uses ok s = absurd s
leaf_sound depth stands sound (Many ns) (Child node) uses ok s = absurd s

fields_sound : (depth : ℕ) (stands : Meaning) → SoundBelow depth stands → (rows : List PlainRow) (fields : PlainFields) (uses : List ℕ) → SoundRows rows → FieldsStand stands rows fields uses →
    (are_sound_fields depth fields ≡ true) × (labels rows ≡ labels_of fields)
fields_sound depth stands sound [] NoField uses ok s = (refl, refl)
fields_sound depth stands sound [] (MoreFields label holds fields) uses ok s = absurd s
fields_sound depth stands sound (row ∷ rows) NoField uses ok s = absurd s
fields_sound depth stands sound (row ∷ rows) (MoreFields label holds fields) uses ok s =
    let rest = fields_sound depth stands sound rows fields s.1 ok.1 s.4 in (
      and_true _ _ (leaf_sound depth stands sound row.shape holds s.0 ok.0 s.3) rest.0,
      ap (λ (l : List ℕ). l ∷ labels rows) s.2 ∙ ap (λ (ls : List (List ℕ)). label ∷ ls) rest.1,
    )

struct_sound : (bytes : List ℕ) (depth : ℕ) → SoundBelow depth (NodeStands depth bytes)
    → (n : ℕ) (node : PlainNode) (uses : List ℕ) → NodeStands (suc depth) bytes n node uses
    → is_sound_node (suc depth) node ≡ true
struct_sound bytes depth sound n (Struct kind fields) uses s =
    let below = fields_sound depth (NodeStands depth bytes) sound s.rows fields s.below (rows_sound bytes s.entry 0 s.rows s.rows-stand) s.fields-stand in
    let distinct : are_distinct bytes_eq (labels_of fields) ≡ true = subst (λ (ls : List (List ℕ)). are_distinct bytes_eq ls ≡ true) below.1 s.distinct in
    and_true _ _ distinct below.0

node_sound : (bytes : List ℕ) (depth : ℕ) → SoundBelow depth (NodeStands depth bytes)
node_sound bytes zero = record { by = λ n node uses s. absurd s }
node_sound bytes (suc depth) = record { by = struct_sound bytes depth (node_sound bytes depth) }

pub top_sound : (bytes : List ℕ) (n : ℕ) (node : PlainNode) (uses : List ℕ) → NodeStands 64 bytes n node uses → is_sound node ≡ true
unfolding is_sound
top_sound bytes n node uses s = (node_sound bytes 64).by n node uses s
