-- The values in the tree that bytes stand for have room, and it has few structs.
use Rattle.std.proofs.Common.{◌≡◌, ◌≤◌, ◌+◌, ◌*◌, ℕ, zero, suc, Bool, true, false, cond, List, [], ◌∷◌, length, take, drop, Ok, Err, Option, None, Some, refl, sym, subst, arith}
use Rattle.std.specs.Prelude.{nat_le}
use Rattle.std.specs.List.{AllByRecursion}
use Rattle.std.proofs.lemmas.Bool.{ltb-false}
use Rattle.std.proofs.lemmas.List.{length-take}
use Rattle.gff_bytes.specs.declared.rows.OpenFault.{OpenFault}
use Rattle.gff_bytes.specs.declared.rows.Range.{Range}
use Rattle.gff_bytes.specs.declared.rows.StructRow.{StructRow}
use Rattle.gff_bytes.specs.declared.rows.Part.TheVariants as part
use Rattle.gff_bytes.specs.File.{count_of, start_of, row_place, passes_end, section_fault, open_fault, data_at}
use Rattle.gff_tree.specs.Tree as tree
use Rattle.gff_tree.specs.Tree.{Scalar, PlainNode, PlainFields, PlainLeaf, PlainNodes, Struct, NoField, MoreFields, Holds, Child, Children, NoNode, MoreNodes}
use Rattle.gff_read.specs.declared.kind.FieldKind.{FieldKind}
use Rattle.gff_read.specs.declared.kind.FieldKind.TheVariants as kind
use Rattle.gff_read.specs.Rows.{PlainShape, PlainRow, Value, One, Many}
use Rattle.gff_read.specs.Walk.{struct_count}
use Rattle.gff_read.specs.Stands.{ScalarStands, ShapeStands, RowsStand, Meaning, NodesStand, LeafStands, FieldsStand, NodeStands}
use Rattle.state_format.specs.Parts.{AreStateBytes, IsSigned}
use Rattle.play_room.specs.Room.{IsText}
use Rattle.play_room.proofs.Texts.{first_bytes, last_bytes, bits_fit}

-- ---- what a tree holds

abbrev pub ScalarHasRoom : Scalar → Type 0
ScalarHasRoom (tree.Int n) = IsSigned n
ScalarHasRoom (tree.Str text) = AreStateBytes text
ScalarHasRoom (tree.Res name) = IsText name
ScalarHasRoom _ = Unit {0}

abbrev mutual
  pub NodeHasRoom : PlainNode → Type 0
  NodeHasRoom (Struct kind fields) = FieldsHaveRoom fields

  pub FieldsHaveRoom : PlainFields → Type 0
  FieldsHaveRoom NoField = Unit {0}
  FieldsHaveRoom (MoreFields label holds rest) = LeafHasRoom holds × FieldsHaveRoom rest

  pub LeafHasRoom : PlainLeaf → Type 0
  LeafHasRoom (Holds scalar) = ScalarHasRoom scalar
  LeafHasRoom (Child node) = NodeHasRoom node
  LeafHasRoom (Children nodes) = NodesHaveRoom nodes

  pub NodesHaveRoom : PlainNodes → Type 0
  NodesHaveRoom NoNode = Unit {0}
  NodesHaveRoom (MoreNodes node rest) = NodeHasRoom node × NodesHaveRoom rest

-- ---- texts of a file

-- where a test let a reading pass
passed : {A : Type 0} (b : Bool) (x y : A) (range : Range) → cond b (Ok x) (Err range) ≡ Ok y → x ≡ y
passed true x y range e = cc
passed false x y range e = absurd cc

record IsTaken (count : ℕ) (text : List ℕ) : Type 0 where
  short : length text ≤ count
  bytes : AreStateBytes text

data_taken : (bytes : List ℕ) → AreStateBytes bytes → (place count : ℕ) (text : List ℕ) → data_at bytes place count ≡ Ok text → IsTaken count text
unfolding data_at
data_taken bytes are place count text e =
    let all = drop (start_of bytes part.Data + place) bytes in
    let is = passed (nat_le (place + count) (count_of bytes part.Data)) (take count all) text _ e in
    subst (IsTaken count) is (record { short = omega (arith, length-take count all); bytes = first_bytes count all (last_bytes (start_of bytes part.Data + place) bytes are) })

-- ---- what bytes stand for

made_room : (s t : Scalar) → s ≡ t → ScalarHasRoom t → ScalarHasRoom s
made_room s t is room = subst ScalarHasRoom (sym is) room

scalar_room : (bytes : List ℕ) → AreStateBytes bytes → (k : FieldKind) (word : ℕ) (s : Scalar) → ScalarStands bytes k word s → ScalarHasRoom s
scalar_room bytes are kind.Byte word s is = made_room s _ is tt
scalar_room bytes are kind.Char word s is = made_room s _ is tt
scalar_room bytes are kind.Word word s is = made_room s _ is tt
scalar_room bytes are kind.Short word s is = made_room s _ is tt
scalar_room bytes are kind.Dword word s is = made_room s _ is tt
scalar_room bytes are kind.Int word s is = made_room s _ is (bits_fit word)
scalar_room bytes are kind.Dword64 word s is = made_room s _ is.2 tt
scalar_room bytes are kind.Int64 word s is = made_room s _ is.2 tt
scalar_room bytes are kind.Float word s is = made_room s _ is tt
scalar_room bytes are kind.Double word s is = made_room s _ is.2 tt
scalar_room bytes are kind.Str word s is = made_room s _ is.3 (data_taken bytes are (word + 4) is.0 is.1 is.2.1).bytes
scalar_room bytes are kind.Res word s is =
    let taken = data_taken bytes are (word + 1) is.0 is.1 is.2.1 in
    let short : length is.1 ≤ 8192 = (let few = taken.short in let most = is.3 in omega (arith, few, most)) in
    made_room s _ is.4 (short, taken.bytes)
scalar_room bytes are kind.Loc word s is = made_room s _ is.5 tt
scalar_room bytes are kind.Void word s is = made_room s _ is.3 tt
scalar_room bytes are kind.Struct word s is = absurd is
scalar_room bytes are kind.List word s is = absurd is

abbrev ShapeHasRoom : PlainShape → Type 0
ShapeHasRoom (Value (Holds s)) = ScalarHasRoom s
ShapeHasRoom (Value (Child node)) = ⊥
ShapeHasRoom (Value (Children nodes)) = ⊥
ShapeHasRoom (One n) = Unit {0}
ShapeHasRoom (Many ns) = Unit {0}

shape_room : (bytes : List ℕ) → AreStateBytes bytes → (k : FieldKind) (word : ℕ) (s : PlainShape) → ShapeStands bytes k word s → ShapeHasRoom s
shape_room bytes are k word (Value (Holds s)) is = scalar_room bytes are k word s is
shape_room bytes are k word (Value (Child node)) is = is
shape_room bytes are k word (Value (Children nodes)) is = is
shape_room bytes are k word (One n) is = tt
shape_room bytes are k word (Many ns) is = tt

abbrev RowsHaveRoom : List PlainRow → Type 0
RowsHaveRoom rows = AllByRecursion (λ (row : PlainRow). ShapeHasRoom row.shape) rows

rows_room : (bytes : List ℕ) → AreStateBytes bytes → (entry : StructRow) (i : ℕ) (rows : List PlainRow) → RowsStand bytes entry i rows → RowsHaveRoom rows
rows_room bytes are entry i [] s = tt
rows_room bytes are entry i (row ∷ rows) s = (shape_room bytes are s.2.of_kind s.2.entry.word row.shape s.2.shape, rows_room bytes are entry (i + 1) rows s.3)

record RoomBelow (stands : Meaning) : Type 0 where
  by : (n : ℕ) (node : PlainNode) (uses : List ℕ) → stands n node uses → NodeHasRoom node

nodes_room : (stands : Meaning) → RoomBelow stands → (ns : List ℕ) (nodes : PlainNodes) (uses : List ℕ) → NodesStand stands ns nodes uses → NodesHaveRoom nodes
nodes_room stands room [] NoNode uses s = tt
nodes_room stands room [] (MoreNodes node nodes) uses s = absurd s
nodes_room stands room (n ∷ ns) NoNode uses s = absurd s
nodes_room stands room (n ∷ ns) (MoreNodes node nodes) uses s = (room.by n node s.0 s.2, nodes_room stands room ns nodes s.1 s.3)

leaf_room : (stands : Meaning) → RoomBelow stands → (shape : PlainShape) (holds : PlainLeaf) (uses : List ℕ) → ShapeHasRoom shape → LeafStands stands shape holds uses → LeafHasRoom holds
leaf_room stands room (Value (Holds scalar)) holds uses fits s = subst LeafHasRoom (sym s.0) fits
leaf_room stands room (Value (Child node)) holds uses fits s = absurd fits
leaf_room stands room (Value (Children nodes)) holds uses fits s = absurd fits
leaf_room stands room (One n) (Child node) uses fits s = room.by n node uses s
leaf_room stands room (One n) (Holds scalar) uses fits s = absurd s
leaf_room stands room (One n) (Children nodes) uses fits s = absurd s
leaf_room stands room (Many ns) (Children nodes) uses fits s = nodes_room stands room ns nodes uses s
leaf_room stands room (Many ns) (Holds scalar) uses fits s = absurd s
leaf_room stands room (Many ns) (Child node) uses fits s = absurd s

fields_room : (stands : Meaning) → RoomBelow stands → (rows : List PlainRow) (fields : PlainFields) (uses : List ℕ) → RowsHaveRoom rows → FieldsStand stands rows fields uses → FieldsHaveRoom fields
fields_room stands room [] NoField uses fits s = tt
fields_room stands room [] (MoreFields label holds fields) uses fits s = absurd s
fields_room stands room (row ∷ rows) NoField uses fits s = absurd s
fields_room stands room (row ∷ rows) (MoreFields label holds fields) uses fits s =
    (leaf_room stands room row.shape holds s.0 fits.0 s.3, fields_room stands room rows fields s.1 fits.1 s.4)

struct_room : (bytes : List ℕ) → AreStateBytes bytes → (depth : ℕ) → RoomBelow (NodeStands depth bytes) → (n : ℕ) (node : PlainNode) (uses : List ℕ)
    → NodeStands (suc depth) bytes n node uses → NodeHasRoom node
struct_room bytes are depth room n (Struct kind fields) uses s =
    fields_room (NodeStands depth bytes) room s.rows fields s.below (rows_room bytes are s.entry 0 s.rows s.rows-stand) s.fields-stand

node_room : (bytes : List ℕ) → AreStateBytes bytes → (depth : ℕ) → RoomBelow (NodeStands depth bytes)
node_room bytes are zero = record { by = λ n node uses s. absurd s }
node_room bytes are (suc depth) = record { by = struct_room bytes are depth (node_room bytes are depth) }

-- the values in the tree of a file have room
pub top_room : (bytes : List ℕ) → AreStateBytes bytes → (depth n : ℕ) (node : PlainNode) (uses : List ℕ) → NodeStands depth bytes n node uses → NodeHasRoom node
top_room bytes are depth n node uses s = (node_room bytes are depth).by n node uses s

-- ---- how many structs a file has

no_fault : (b : Bool) (fault : OpenFault) (more : Option OpenFault) → cond b (Some fault) more ≡ None → (b ≡ false) × (more ≡ None)
no_fault true fault more e = absurd cc
no_fault false fault more e = (refl, e)

no_more : (b : Bool) (fault : OpenFault) (more : Option OpenFault) → cond b more (Some fault) ≡ None → more ≡ None
no_more true fault more e = e
no_more false fault more e = absurd cc

no_section : (bytes : List ℕ) → open_fault bytes ≡ None → section_fault bytes ≡ None
unfolding open_fault
no_section bytes clear = no_more _ _ _ (no_fault _ _ _ clear).1

section_inside : (bytes : List ℕ) → section_fault bytes ≡ None → row_place bytes part.Struct (struct_count bytes) ≤ length bytes
section_inside bytes none = ltb-false _ _ (no_fault (passes_end bytes part.Struct) _ _ none).0

-- their section lies inside the file
pub structs_few : (bytes : List ℕ) → open_fault bytes ≡ None → 12 * struct_count bytes ≤ length bytes
structs_few bytes clear = let inside = section_inside bytes (no_section bytes clear) in omega (arith, inside)
