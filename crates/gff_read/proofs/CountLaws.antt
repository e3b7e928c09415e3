-- A tree that the bytes stand for has no more structs than the file.
use Rattle.std.proofs.Common.{◌≡◌, ◌<◌, ◌≤◌, ◌+◌, ℕ, zero, suc, Bool, true, false, cond, not, ◌&&◌, ◌||◌, List, [], ◌∷◌, ◌++◌, length, Ok, Err, refl, sym, subst, ◌∙◌, append_assoc, length-append}
use Rattle.std.proofs.Common.{arith}
use Rattle.std.specs.Prelude.{nat_eq, nat_lt}
use Rattle.std.specs.List.{IsDistinct, list_any}
use Rattle.std.specs.Cmp.{nat_eq_equiv}
use Rattle.std.proofs.lemmas.Bool.{eqb-true, ltb-true}
use Rattle.std.proofs.lemmas.List.Folds.{list_any-append}
use Rattle.std.proofs.lemmas.List.{append-nil}
use Rattle.std.proofs.lemmas.Map.Keys.{IsDistinct-push}
use Rattle.std.proofs.lemmas.Map.Steps.{length-le_from_distinct_below}
use Rattle.gff_bytes.specs.declared.rows.Range.{Range}
use Rattle.gff_bytes.specs.declared.rows.StructRow.{StructRow}
use Rattle.gff_bytes.specs.declared.rows.Part.TheVariants as part
use Rattle.gff_bytes.specs.File.{count_of, struct_row}
use Rattle.gff_read.specs.declared.kind.FieldKind.{FieldKind}
use Rattle.gff_tree.specs.Tree.{PlainNode, PlainFields, PlainLeaf, PlainNodes, Struct, NoField, MoreFields, Holds, Child, Children, NoNode, MoreNodes, differ_after, are_distinct}
use Rattle.gff_read.specs.Rows.{PlainShape, PlainRow, Value, One, Many}
use Rattle.gff_read.specs.Stands.{ShapeStands, RowsStand, Meaning, NodesStand, LeafStands, FieldsStand, NodeStands}
use Rattle.gff_tree.specs.Count.{node_count, fields_count, leaf_count, nodes_count}
use Rattle.gff_read.specs.Walk.{struct_count}

-- numbers below a bound
abbrev pub AreBelow : ℕ → List ℕ → Type 0
AreBelow bound ns = (q : ℕ) → list_any (nat_eq q) ns ≡ true → q < bound

none_below : (bound : ℕ) → AreBelow bound []
none_below bound = λ q e. absurd cc

either : (a b : Bool) (bound q : ℕ) → (a || b) ≡ true → (a ≡ true → q < bound) → (b ≡ true → q < bound) → q < bound
either true b bound q e left right = left refl
either false b bound q e left right = right e

first_below : (bound n : ℕ) (ns : List ℕ) → n < bound → AreBelow bound ns → AreBelow bound (n ∷ ns)
first_below bound n ns lt rest = λ q e. either (nat_eq q n) (list_any (nat_eq q) ns) bound q e (λ same. subst (λ (k : ℕ). k < bound) (sym (eqb-true q n same)) lt) (rest q)

both_below : (bound : ℕ) (ns ms : List ℕ) → AreBelow bound ns → AreBelow bound ms → AreBelow bound (ns ++ ms)
both_below bound ns ms left right = λ q e. either (list_any (nat_eq q) ns) (list_any (nat_eq q) ms) bound q (sym (list_any-append (nat_eq q) ns ms) ∙ e) (left q) (right q)

-- as many structs of the file are used as the node has, and each is one of the file
record Counts (bound : ℕ) (count : ℕ) (uses : List ℕ) : Type 0 where
  long : length uses ≡ count
  below : AreBelow bound uses

record Counted (bound : ℕ) (stands : Meaning) : Type 0 where
  by : (n : ℕ) (node : PlainNode) (uses : List ℕ) → stands n node uses → Counts bound (node_count node) uses

no_uses : (bound : ℕ) (uses : List ℕ) → uses ≡ [] → Counts bound 0 uses
no_uses bound uses is = subst (Counts bound 0) (sym is) (record { long = refl; below = none_below bound })

joined : (bound a b : ℕ) (first rest uses : List ℕ) → uses ≡ first ++ rest → Counts bound a first → Counts bound b rest → Counts bound (a + b) uses
joined bound a b first rest uses is left right =
    subst (Counts bound (a + b)) (sym is) (record { long = omega (arith, length-append first rest, left.long, right.long); below = both_below bound first rest left.below right.below })

nodes_counted : (bound : ℕ) (stands : Meaning) → Counted bound stands → (ns : List ℕ) (nodes : PlainNodes) (uses : List ℕ) → NodesStand stands ns nodes uses → Counts bound (nodes_count nodes) uses
nodes_counted bound stands counted [] NoNode uses s = no_uses bound uses s
nodes_counted bound stands counted [] (MoreNodes node nodes) uses s = absurd s
nodes_counted bound stands counted (n ∷ ns) NoNode uses s = absurd s
nodes_counted bound stands counted (n ∷ ns) (MoreNodes node nodes) uses s =
    joined bound (node_count node) (nodes_count nodes) s.0 s.1 uses s.4 (counted.by n node s.0 s.2) (nodes_counted bound stands counted ns nodes s.1 s.3)

-- a row of a value holds no struct
abbrev IsValue : PlainShape → Type 0
IsValue (Value (Holds scalar)) = Unit {0}
IsValue (Value (Child node)) = ⊥
IsValue (Value (Children nodes)) = ⊥
IsValue (One n) = Unit {0}
IsValue (Many ns) = Unit {0}

abbrev AreValues : List PlainRow → Type 0
AreValues [] = Unit {0}
AreValues (row ∷ rows) = IsValue row.shape × AreValues rows

is_value : (bytes : List ℕ) (k : FieldKind) (word : ℕ) (shape : PlainShape) → ShapeStands bytes k word shape → IsValue shape
is_value bytes k word (Value (Holds scalar)) s = tt
is_value bytes k word (Value (Child node)) s = s
is_value bytes k word (Value (Children nodes)) s = s
is_value bytes k word (One n) s = tt
is_value bytes k word (Many ns) s = tt

are_values : (bytes : List ℕ) (entry : StructRow) (i : ℕ) (rows : List PlainRow) → RowsStand bytes entry i rows → AreValues rows
are_values bytes entry i [] s = tt
are_values bytes entry i (row ∷ rows) s = (is_value bytes s.2.of_kind s.2.entry.word row.shape s.2.shape, are_values bytes entry (i + 1) rows s.3)

leaf_counted : (bound : ℕ) (stands : Meaning) → Counted bound stands
    → (shape : PlainShape) (holds : PlainLeaf) (uses : List ℕ) → IsValue shape → LeafStands stands shape holds uses
    → Counts bound (leaf_count holds) uses
leaf_counted bound stands counted (Value (Holds scalar)) holds uses is s = subst (λ (l : PlainLeaf). Counts bound (leaf_count l) uses) (sym s.0) (no_uses bound uses s.1)
leaf_counted bound stands counted (Value (Child node)) holds uses is s = absurd is
leaf_counted bound stands counted (Value (Children nodes)) holds uses is s = absurd is
leaf_counted bound stands counted (One n) (Child node) uses is s = counted.by n node uses s
leaf_counted bound stands counted (One n) (Holds scalar) uses is s = absurd s
leaf_counted bound stands counted (One n) (Children nodes) uses is s = absurd s
leaf_counted bound stands counted (Many ns) (Children nodes) uses is s = nodes_counted bound stands counted ns nodes uses s
leaf_counted bound stands counted (Many ns) (Holds scalar) uses is s = absurd s
leaf_counted bound stands counted (Many ns) (Child node) uses is s = absurd s

fields_counted : (bound : ℕ) (stands : Meaning) → Counted bound stands
    → (rows : List PlainRow) (fields : PlainFields) (uses : List ℕ) → AreValues rows
    → FieldsStand stands rows fields uses → Counts bound (fields_count fields) uses
fields_counted bound stands counted [] NoField uses are s = no_uses bound uses s
fields_counted bound stands counted [] (MoreFields label holds fields) uses are s = absurd s
fields_counted bound stands counted (row ∷ rows) NoField uses are s = absurd s
fields_counted bound stands counted (row ∷ rows) (MoreFields label holds fields) uses are s =
    joined bound (leaf_count holds) (fields_count fields) s.0 s.1 uses s.5
    (leaf_counted bound stands counted row.shape holds s.0 are.0 s.3)
    (fields_counted bound stands counted rows fields s.1 are.1 s.4)

row_below : (bytes : List ℕ) (n : ℕ) (entry : StructRow) → struct_row bytes n ≡ Ok entry → n < struct_count bytes
unfolding struct_row
row_below bytes n entry e = by_test (nat_lt n (count_of bytes part.Struct)) _ _ refl e
  where
    by_test : (b : Bool) (row : StructRow) (range : Range) → nat_lt n (count_of bytes part.Struct) ≡ b → cond b (Ok row) (Err range) ≡ Ok entry → n < struct_count bytes
    by_test true row range is h = ltb-true n (count_of bytes part.Struct) is
    by_test false row range is h = absurd cc

struct_counted : (bytes : List ℕ) (depth : ℕ) → Counted (struct_count bytes) (NodeStands depth bytes)
    → (n : ℕ) (node : PlainNode) (uses : List ℕ) → NodeStands (suc depth) bytes n node uses
    → Counts (struct_count bytes) (node_count node) uses
struct_counted bytes depth counted n (Struct kind fields) uses s =
    let below = fields_counted (struct_count bytes) (NodeStands depth bytes) counted s.rows fields s.below (are_values bytes s.entry 0 s.rows s.rows-stand) s.fields-stand in
    let lt = row_below bytes n s.entry s.entry-is in
    joined (struct_count bytes) 1 (fields_count fields) (n ∷ []) s.below uses s.uses-is
    (record {
      long = refl;
      below = first_below (struct_count bytes) n [] lt
          (none_below (struct_count bytes));
    }) below

node_counted : (bytes : List ℕ) (depth : ℕ) → Counted (struct_count bytes) (NodeStands depth bytes)
node_counted bytes zero = record { by = λ n node uses s. absurd s }
node_counted bytes (suc depth) = record { by = struct_counted bytes depth (node_counted bytes depth) }

-- items that differ from those before them differ from those after them
distinct_after : (first ns : List ℕ) → IsDistinct nat_eq first → differ_after nat_eq first ns ≡ true → IsDistinct nat_eq (first ++ ns)
distinct_after first [] d e = subst (IsDistinct nat_eq) (sym (append-nil first)) d
distinct_after first (n ∷ ns) d e =
    let parts = new_and (list_any (nat_eq n) first) (differ_after nat_eq (first ++ n ∷ []) ns) e in
    subst (IsDistinct nat_eq) (append_assoc first (n ∷ []) ns) (distinct_after (first ++ n ∷ []) ns (IsDistinct-push nat_eq_equiv first n d parts.0) parts.1)
  where
    new_and : (a b : Bool) → (not a && b) ≡ true → (a ≡ false) × (b ≡ true)
    new_and true b h = absurd cc
    new_and false b h = (refl, h)

pub count_within : (bytes : List ℕ) (node : PlainNode) (uses : List ℕ) → NodeStands 64 bytes 0 node uses → are_distinct nat_eq uses ≡ true → node_count node ≤ struct_count bytes
unfolding IsDistinct
count_within bytes node uses s d =
    let counts = (node_counted bytes 64).by 0 node uses s in
    omega (arith, counts.long, length-le_from_distinct_below uses (struct_count bytes) (distinct_after [] uses tt d) counts.below)
