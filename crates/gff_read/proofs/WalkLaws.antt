-- The walk gives a tree exactly where the bytes stand for it.
use Rattle.std.proofs.Common.{◌≡◌, ◌≢◌, ◌<◌, ◌==◌, ◌⊎◌, inl, inr, ℕ, zero, suc, Bool, true, false, cond, not, ◌&&◌, ◌||◌, List, [], ◌∷◌, ◌++◌, length, get_or, set, replicate, Ok, Err, refl, sym}
use Rattle.std.proofs.Common.{ap, subst, ◌∙◌, append_assoc, arith}
use Rattle.std.specs.Prelude.{nat_eq, slice_set, nat_lt}
use Rattle.std.specs.List.{list_any}
use Rattle.std.specs.Str.{bytes_eq}
use Rattle.std.proofs.lemmas.Bool.{eqb-true, eq-eqb, ltb-true}
use Rattle.std.proofs.lemmas.Bool.Decides.{nat_tests}
use Rattle.std.proofs.lemmas.List.{append-nil, length-replicate, get_or-replicate, get_or-set_same, get_or-set_other, length-set}
use Rattle.std.proofs.lemmas.List.Folds.{list_any-append}
use Rattle.std.proofs.Math.Dec.{eqb-suc-zero}
use Rattle.gff_bytes.specs.declared.rows.Range.{Range}
use Rattle.gff_bytes.specs.declared.rows.StructRow.{StructRow}
use Rattle.gff_bytes.specs.declared.rows.Part.TheVariants as part
use Rattle.gff_bytes.specs.File.{struct_row, count_of}
use Rattle.gff_read.specs.declared.fault.TreeFault.TheVariants as fault
use Rattle.gff_tree.specs.Tree.{PlainNode, PlainFields, PlainLeaf, PlainNodes, Struct, NoField, MoreFields, Holds, Child, Children, NoNode, MoreNodes, differ_after}
use Rattle.gff_read.specs.Rows.{◌>>=◌, placed, PlainShape, PlainRow, Value, One, Many, rows_from, rows_of}
use Rattle.gff_read.specs.Stands.{Meaning, NodesStand, LeafStands, FieldsStand, StructStands, NodeStands, RowsStand}
use Rattle.gff_read.specs.Walk.{Marks, Reading, struct_count, struct_entered, node_at, fields_at, leaf_at, nodes_at}
use Rattle.gff_read.proofs.Steps.{bind_ok, guard_ok, ok_is, placed_ok}
use Rattle.gff_read.proofs.RowLaws.{labels, rows_stand, rows_read}
use Rattle.gff_read.proofs.WalkLemmas.{node_step, below}

-- is a number among these?
abbrev pub is_in : List ℕ → ℕ → Bool
is_in seen k = list_any (nat_eq k) seen

-- the marks of so many structs tell which were used
pub record Marked (count : ℕ) (marks : Marks) (seen : List ℕ) : Type 0 where
  pub whole : length marks ≡ count
  pub each : (k : ℕ) → k < count → get_or marks k false ≡ is_in seen k

pub marked_none : (count : ℕ) → Marked count (replicate count false) []
marked_none count = record { whole = length-replicate count false; each = λ k lt. get_or-replicate count k false false lt }

or_false : (b : Bool) → (b || false) ≡ b
or_false true = refl
or_false false = refl

or_true : (b : Bool) → (b || true) ≡ true
or_true true = refl
or_true false = refl

same_or_not : (k n : ℕ) → (k ≡ n) ⊎ ((nat_eq k n ≡ false) × (k ≢ n))
same_or_not k n = by_test (nat_eq k n) refl
  where
    by_test : (b : Bool) → nat_eq k n ≡ b → (k ≡ n) ⊎ ((nat_eq k n ≡ false) × (k ≢ n))
    by_test true e = inl (eqb-true k n e)
    by_test false e = inr (e, λ same. absurd (differ (sym (eq-eqb k n same) ∙ e)))
      where
        differ : true ≡ false → ⊥
        differ h = cc

marked_more : (count n : ℕ) (marks : Marks) (seen : List ℕ) → n < count → Marked count marks seen → Marked count (slice_set marks n true) (seen ++ n ∷ [])
marked_more count n marks seen lt m = record {
  whole = length-set marks n true ∙ m.whole;
  each = at;
}
  where
    at : (k : ℕ) → k < count → get_or (set marks n true) k false ≡ is_in (seen ++ n ∷ []) k
    at k below = elim (same_or_not k n) [
      | inl same ↦
          (let here : get_or (set marks n true) k false ≡ true = rw same (get_or-set_same marks n true false (subst (λ (c : ℕ). n < c) (sym m.whole) lt)) in
          let there : is_in (seen ++ n ∷ []) k ≡ true = list_any-append (nat_eq k) seen (n ∷ []) ∙ (rw (eq-eqb k n same) (or_true (is_in seen k))) in
          here ∙ sym there)
      | inr other ↦
          (let here : get_or (set marks n true) k false ≡ get_or marks k false = get_or-set_other marks n k true false other.1 in
          let there : is_in (seen ++ n ∷ []) k ≡ is_in seen k = list_any-append (nat_eq k) seen (n ∷ []) ∙ (rw other.0 (or_false (is_in seen k))) in
          here ∙ (m.each k below ∙ sym there))
    ]

differ_append : (seen xs ys : List ℕ) → differ_after nat_eq seen (xs ++ ys) ≡ (differ_after nat_eq seen xs && differ_after nat_eq (seen ++ xs) ys)
differ_append seen [] ys = ap (λ (l : List ℕ). differ_after nat_eq l ys) (sym (append-nil seen))
differ_append seen (x ∷ xs) ys =
    let rest = differ_append (seen ++ x ∷ []) xs ys in
    let regrouped : (seen ++ x ∷ []) ++ xs ≡ seen ++ (x ∷ xs) = append_assoc seen (x ∷ []) xs in
    let joined : differ_after nat_eq (seen ++ x ∷ []) (xs ++ ys) ≡ (differ_after nat_eq (seen ++ x ∷ []) xs && differ_after nat_eq (seen ++ (x ∷ xs)) ys) =
    rest ∙ ap (λ (l : List ℕ). differ_after nat_eq (seen ++ x ∷ []) xs && differ_after nat_eq l ys) regrouped in
    ap (λ (b : Bool). not (is_in seen x) && b) joined ∙ and_assoc (not (is_in seen x)) (differ_after nat_eq (seen ++ x ∷ []) xs) (differ_after nat_eq (seen ++ (x ∷ xs)) ys)
  where
    and_assoc : (a b c : Bool) → (a && (b && c)) ≡ ((a && b) && c)
    and_assoc true b c = refl
    and_assoc false b c = refl

both : (a b : Bool) → (a && b) ≡ true → (a ≡ true) × (b ≡ true)
both true b e = (refl, e)
both false b e = absurd cc

and_true : (a b : Bool) → a ≡ true → b ≡ true → (a && b) ≡ true
and_true a b p q = rw (p, q) refl

not_false : (a : Bool) → not a ≡ true → a ≡ false
not_false true e = absurd cc
not_false false e = refl

-- what a reading of structs gives is what they stand for, with uses that were not marked, and the
-- other way round
pub record Agrees (count : ℕ) (one : Reading) (stands : Meaning) : Type 0 where
  pub sound : (n : ℕ) (marks : Marks) (seen : List ℕ) (node : PlainNode) (after : Marks) → Marked count marks seen → one n marks ≡ Ok (node, after) →
      (uses : List ℕ) × stands n node uses × (differ_after nat_eq seen uses ≡ true) × Marked count after (seen ++ uses)
  pub complete : (n : ℕ) (marks : Marks) (seen : List ℕ) (node : PlainNode) (uses : List ℕ) → Marked count marks seen → stands n node uses → differ_after nat_eq seen uses ≡ true →
      (after : Marks) × (one n marks ≡ Ok (node, after)) × Marked count after (seen ++ uses)

abbrev Seen : ℕ → List ℕ → List ℕ → Marks → Type 0
Seen count seen uses after = (differ_after nat_eq seen uses ≡ true) × Marked count after (seen ++ uses)

seen_none : (count : ℕ) (seen : List ℕ) (marks : Marks) → Marked count marks seen → Seen count seen [] marks
seen_none count seen marks m = (refl, subst (Marked count marks) (sym (append-nil seen)) m)

seen_join : (count : ℕ) (seen first rest : List ℕ) (after : Marks) → differ_after nat_eq seen first ≡ true → Seen count (seen ++ first) rest after → Seen count seen (first ++ rest) after
seen_join count seen first rest after d s =
    (differ_append seen first rest ∙ and_true _ _ d s.0, subst (Marked count after) (append_assoc seen first rest) s.1)

differ_split : (seen first rest : List ℕ) → differ_after nat_eq seen (first ++ rest) ≡ true → (differ_after nat_eq seen first ≡ true) × (differ_after nat_eq (seen ++ first) rest ≡ true)
differ_split seen first rest d = both _ _ (sym (differ_append seen first rest) ∙ d)

nodes_sound : (count : ℕ) (one : Reading) (stands : Meaning) → Agrees count one stands → (ns : List ℕ) (marks : Marks) (seen : List ℕ) (nodes : PlainNodes) (after : Marks) →
    Marked count marks seen → nodes_at one ns marks ≡ Ok (nodes, after) → (uses : List ℕ) × NodesStand stands ns nodes uses × Seen count seen uses after
nodes_sound count one stands agrees [] marks seen nodes after m e =
    let is : (NoNode, marks) ≡ (nodes, after) = ok_is (NoNode, marks) (nodes, after) e in
    subst (λ (r : PlainNodes × Marks). (uses : List ℕ) × NodesStand stands [] r.0 uses × Seen count seen uses r.1) is ([], refl, seen_none count seen marks m)
nodes_sound count one stands agrees (n ∷ ns) marks seen nodes after m e =
    let b = bind_ok (one n marks) (λ first. (nodes_at one ns first.1 >>= λ rest. Ok (MoreNodes first.0 rest.0, rest.1))) (nodes, after) e in
    let r = bind_ok (nodes_at one ns b.0.1) (λ rest. Ok (MoreNodes b.0.0 rest.0, rest.1)) (nodes, after) b.2 in
    let first = agrees.sound n marks seen b.0.0 b.0.1 m b.1 in
    let rest = nodes_sound count one stands agrees ns b.0.1 (seen ++ first.0) r.0.0 r.0.1 first.3 r.1 in
    let is : (MoreNodes b.0.0 r.0.0, r.0.1) ≡ (nodes, after) = ok_is (MoreNodes b.0.0 r.0.0, r.0.1) (nodes, after) r.2 in
    subst (λ (x : PlainNodes × Marks). (uses : List ℕ) × NodesStand stands (n ∷ ns) x.0 uses × Seen count seen uses x.1) is
    (first.0 ++ rest.0, (first.0, rest.0, first.1, rest.1, refl), seen_join count seen first.0 rest.0 r.0.1 first.2 rest.2)

nodes_complete : (count : ℕ) (one : Reading) (stands : Meaning) → Agrees count one stands → (ns : List ℕ) (marks : Marks) (seen : List ℕ) (nodes : PlainNodes) (uses : List ℕ) →
    Marked count marks seen → NodesStand stands ns nodes uses → differ_after nat_eq seen uses ≡ true → (after : Marks) × (nodes_at one ns marks ≡ Ok (nodes, after)) × Marked count after (seen ++ uses)
nodes_complete count one stands agrees [] marks seen NoNode uses m s d =
    (marks, refl, subst (λ (us : List ℕ). Marked count marks (seen ++ us)) (sym s) (seen_none count seen marks m).1)
nodes_complete count one stands agrees [] marks seen (MoreNodes node nodes) uses m s d = absurd s
nodes_complete count one stands agrees (n ∷ ns) marks seen NoNode uses m s d = absurd s
nodes_complete count one stands agrees (n ∷ ns) marks seen (MoreNodes node nodes) uses m s d =
    let apart = differ_split seen s.0 s.1 (subst (λ (us : List ℕ). differ_after nat_eq seen us ≡ true) s.4 d) in
    let first = agrees.complete n marks seen node s.0 m s.2 apart.0 in
    let rest = nodes_complete count one stands agrees ns first.0 (seen ++ s.0) nodes s.1 first.2 s.3 apart.1 in (
      rest.0,
      rw (first.1, rest.1) refl,
      subst (λ (us : List ℕ). Marked count rest.0 (seen ++ us)) (sym s.4) (subst (Marked count rest.0) (append_assoc seen s.0 s.1) rest.2),
    )

leaf_sound : (count : ℕ) (one : Reading) (stands : Meaning) → Agrees count one stands → (shape : PlainShape) (marks : Marks) (seen : List ℕ) (holds : PlainLeaf) (after : Marks) →
    Marked count marks seen → leaf_at one shape marks ≡ Ok (holds, after) → (uses : List ℕ) × LeafStands stands shape holds uses × Seen count seen uses after
leaf_sound count one stands agrees (Value value) marks seen holds after m e =
    let is : (value, marks) ≡ (holds, after) = ok_is (value, marks) (holds, after) e in
    subst (λ (r : PlainLeaf × Marks). (uses : List ℕ) × LeafStands stands (Value value) r.0 uses × Seen count seen uses r.1) is ([], (refl, refl), seen_none count seen marks m)
leaf_sound count one stands agrees (One n) marks seen holds after m e =
    let b = bind_ok (one n marks) (λ node. Ok (Child node.0, node.1)) (holds, after) e in
    let s = agrees.sound n marks seen b.0.0 b.0.1 m b.1 in
    let is : (Child b.0.0, b.0.1) ≡ (holds, after) = ok_is (Child b.0.0, b.0.1) (holds, after) b.2 in
    subst (λ (r : PlainLeaf × Marks). (uses : List ℕ) × LeafStands stands (One n) r.0 uses × Seen count seen uses r.1) is (s.0, s.1, (s.2, s.3))
leaf_sound count one stands agrees (Many ns) marks seen holds after m e =
    let b = bind_ok (nodes_at one ns marks) (λ nodes. Ok (Children nodes.0, nodes.1)) (holds, after) e in
    let s = nodes_sound count one stands agrees ns marks seen b.0.0 b.0.1 m b.1 in
    let is : (Children b.0.0, b.0.1) ≡ (holds, after) = ok_is (Children b.0.0, b.0.1) (holds, after) b.2 in
    subst (λ (r : PlainLeaf × Marks). (uses : List ℕ) × LeafStands stands (Many ns) r.0 uses × Seen count seen uses r.1) is s

leaf_complete : (count : ℕ) (one : Reading) (stands : Meaning) → Agrees count one stands → (shape : PlainShape) (marks : Marks) (seen : List ℕ) (holds : PlainLeaf) (uses : List ℕ) →
    Marked count marks seen → LeafStands stands shape holds uses → differ_after nat_eq seen uses ≡ true
    → (after : Marks) × (leaf_at one shape marks ≡ Ok (holds, after)) × Marked count after (seen ++ uses)
leaf_complete count one stands agrees (Value value) marks seen holds uses m s d =
    (marks, ap (λ (h : PlainLeaf). Ok (h, marks)) (sym s.0), subst (λ (us : List ℕ). Marked count marks (seen ++ us)) (sym s.1) (seen_none count seen marks m).1)
leaf_complete count one stands agrees (One n) marks seen (Holds s') uses m s d = absurd s
leaf_complete count one stands agrees (One n) marks seen (Children nodes) uses m s d = absurd s
leaf_complete count one stands agrees (One n) marks seen (Child node) uses m s d =
    let r = agrees.complete n marks seen node uses m s d in
    (r.0, rw r.1 refl, r.2)
leaf_complete count one stands agrees (Many ns) marks seen (Holds s') uses m s d = absurd s
leaf_complete count one stands agrees (Many ns) marks seen (Child node) uses m s d = absurd s
leaf_complete count one stands agrees (Many ns) marks seen (Children nodes) uses m s d =
    let r = nodes_complete count one stands agrees ns marks seen nodes uses m s d in
    (r.0, rw r.1 refl, r.2)

fields_sound : (count : ℕ) (one : Reading) (stands : Meaning) → Agrees count one stands → (rows : List PlainRow) (marks : Marks) (seen : List ℕ) (fields : PlainFields) (after : Marks) →
    Marked count marks seen → fields_at one rows marks ≡ Ok (fields, after) → (uses : List ℕ) × FieldsStand stands rows fields uses × Seen count seen uses after
fields_sound count one stands agrees [] marks seen fields after m e =
    let is : (NoField, marks) ≡ (fields, after) = ok_is (NoField, marks) (fields, after) e in
    subst (λ (r : PlainFields × Marks). (uses : List ℕ) × FieldsStand stands [] r.0 uses × Seen count seen uses r.1) is ([], refl, seen_none count seen marks m)
fields_sound count one stands agrees (row ∷ rows) marks seen fields after m e =
    let b = bind_ok (leaf_at one row.shape marks) (λ first. (fields_at one rows first.1 >>= λ rest. Ok (MoreFields row.label first.0 rest.0, rest.1))) (fields, after) e in
    let r = bind_ok (fields_at one rows b.0.1) (λ rest. Ok (MoreFields row.label b.0.0 rest.0, rest.1)) (fields, after) b.2 in
    let first = leaf_sound count one stands agrees row.shape marks seen b.0.0 b.0.1 m b.1 in
    let rest = fields_sound count one stands agrees rows b.0.1 (seen ++ first.0) r.0.0 r.0.1 first.2.1 r.1 in
    let is : (MoreFields row.label b.0.0 r.0.0, r.0.1) ≡ (fields, after) = ok_is (MoreFields row.label b.0.0 r.0.0, r.0.1) (fields, after) r.2 in
    subst (λ (x : PlainFields × Marks). (uses : List ℕ) × FieldsStand stands (row ∷ rows) x.0 uses × Seen count seen uses x.1) is
    (first.0 ++ rest.0, (first.0, rest.0, refl, first.1, rest.1, refl), seen_join count seen first.0 rest.0 r.0.1 first.2.0 rest.2)

fields_complete : (count : ℕ) (one : Reading) (stands : Meaning) → Agrees count one stands → (rows : List PlainRow) (marks : Marks) (seen : List ℕ) (fields : PlainFields) (uses : List ℕ) →
    Marked count marks seen → FieldsStand stands rows fields uses → differ_after nat_eq seen uses ≡ true
    → (after : Marks) × (fields_at one rows marks ≡ Ok (fields, after)) × Marked count after (seen ++ uses)
fields_complete count one stands agrees [] marks seen NoField uses m s d =
    (marks, refl, subst (λ (us : List ℕ). Marked count marks (seen ++ us)) (sym s) (seen_none count seen marks m).1)
fields_complete count one stands agrees [] marks seen (MoreFields label holds fields) uses m s d = absurd s
fields_complete count one stands agrees (row ∷ rows) marks seen NoField uses m s d = absurd s
fields_complete count one stands agrees (row ∷ rows) marks seen (MoreFields label holds fields) uses m s d =
    let apart = differ_split seen s.0 s.1 (subst (λ (us : List ℕ). differ_after nat_eq seen us ≡ true) s.5 d) in
    let first = leaf_complete count one stands agrees row.shape marks seen holds s.0 m s.3 apart.0 in
    let rest = fields_complete count one stands agrees rows first.0 (seen ++ s.0) fields s.1 first.2 s.4 apart.1 in (
      rest.0,
      rw (first.1, rest.1) (ap (λ (l : List ℕ). Ok (MoreFields l holds fields, rest.0)) s.2),
      subst (λ (us : List ℕ). Marked count rest.0 (seen ++ us)) (sym s.5) (subst (Marked count rest.0) (append_assoc seen s.0 s.1) rest.2),
    )

row_inside : (bytes : List ℕ) (n : ℕ) (row : StructRow) → struct_row bytes n ≡ Ok row → n < struct_count bytes
unfolding struct_row
row_inside bytes n row e = in_test (nat_lt n (count_of bytes part.Struct)) _ _ e refl
  where
    in_test : (b : Bool) (x : StructRow) (y : Range) → cond b (Ok x) (Err y) ≡ Ok row → nat_lt n (count_of bytes part.Struct) ≡ b → n < count_of bytes part.Struct
    in_test true x y h is = ltb-true _ _ is
    in_test false x y h is = absurd cc

entered_ok : (depth : ℕ) (bytes : List ℕ) (n : ℕ) (marks : Marks) (row : StructRow)
    → struct_entered depth bytes n marks ≡ Ok row
    → (struct_row bytes n ≡ Ok row) × (get_or marks n false ≡ false) × (0 < depth)
unfolding struct_entered
entered_ok depth bytes n marks row e =
    let b = bind_ok (placed (struct_row bytes n)) _ row e in
    let g = guard_ok (get_or marks n false) (fault.Shared n) _ row b.2 in
    let h = guard_ok (depth == 0) (fault.Deep n) (Ok b.0) row g.1 in
    (placed_ok (struct_row bytes n) b.0 b.1 ∙ ap Ok (ok_is b.0 row h.1), g.0, grind (arith, nat_tests))

entered_is : (depth : ℕ) (bytes : List ℕ) (n : ℕ) (marks : Marks) (row : StructRow) → struct_row bytes n ≡ Ok row → get_or marks n false ≡ false → struct_entered (suc depth) bytes n marks ≡ Ok row
unfolding struct_entered
entered_is depth bytes n marks row e unmarked = rw (e, unmarked, eqb-suc-zero depth) refl

node_sound : (bytes : List ℕ) (depth : ℕ) → Agrees (struct_count bytes) (node_at depth bytes) (NodeStands depth bytes) →
    (n : ℕ) (marks : Marks) (seen : List ℕ) (node : PlainNode) (after : Marks) → Marked (struct_count bytes) marks seen → node_at (suc depth) bytes n marks ≡ Ok (node, after) →
    (uses : List ℕ) × NodeStands (suc depth) bytes n node uses × (differ_after nat_eq seen uses ≡ true) × Marked (struct_count bytes) after (seen ++ uses)
unfolding node_at rows_of
node_sound bytes depth agrees n marks seen node after m e =
    let count = struct_count bytes in
    let b = bind_ok (struct_entered (suc depth) bytes n marks) _ (node, after) e in
    let i = entered_ok (suc depth) bytes n marks b.0 b.1 in
    let r = bind_ok (rows_of bytes b.0) _ (node, after) b.2 in
    let f = bind_ok (fields_at (node_at depth bytes) r.0 (slice_set marks n true)) (λ fields. Ok (Struct b.0.kind fields.0, fields.1)) (node, after) r.2 in
    let lt : n < count = row_inside bytes n b.0 i.0 in
    let here : Marked count (slice_set marks n true) (seen ++ n ∷ []) = marked_more count n marks seen lt m in
    let rows = rows_stand bytes b.0 0 b.0.count [] r.0 r.1 in
    let fields = fields_sound count (node_at depth bytes) (NodeStands depth bytes) agrees r.0 (slice_set marks n true) (seen ++ n ∷ []) f.0.0 f.0.1 here f.1 in
    let fresh : is_in seen n ≡ false = sym (m.each n lt) ∙ i.1 in
    let is : (Struct b.0.kind f.0.0, f.0.1) ≡ (node, after) = ok_is (Struct b.0.kind f.0.0, f.0.1) (node, after) f.2 in
    let stands : StructStands (NodeStands depth bytes) bytes n b.0.kind f.0.0 (n ∷ fields.0) = record {
      entry = b.0;
      rows = r.0;
      below = fields.0;
      entry-is = i.0;
      kind-is = refl;
      count = ap length rows.1 ∙ rows.2;
      rows-stand = subst (RowsStand bytes b.0 0) (sym rows.1) rows.3;
      distinct = ap (λ (rs : List PlainRow). differ_after bytes_eq [] (labels rs)) rows.1 ∙ rows.4;
      fields-stand = fields.1;
      uses-is = refl;
    } in
    subst (λ (x : PlainNode × Marks). (uses : List ℕ) × NodeStands (suc depth) bytes n x.0 uses × (differ_after nat_eq seen uses ≡ true) × Marked count x.1 (seen ++ uses)) is
    (n ∷ fields.0, stands, rw fresh fields.2.0, subst (Marked count f.0.1) (append_assoc seen (n ∷ []) fields.0) fields.2.1)

node_complete : (bytes : List ℕ) (depth : ℕ) → Agrees (struct_count bytes) (node_at depth bytes) (NodeStands depth bytes) →
    (n : ℕ) (marks : Marks) (seen : List ℕ) (node : PlainNode) (uses : List ℕ) → Marked (struct_count bytes) marks seen
    → NodeStands (suc depth) bytes n node uses → differ_after nat_eq seen uses ≡ true →
    (after : Marks) × (node_at (suc depth) bytes n marks ≡ Ok (node, after)) × Marked (struct_count bytes) after (seen ++ uses)
unfolding node_at rows_of
node_complete bytes depth agrees n marks seen (Struct kind fields) uses m s d =
    let count = struct_count bytes in
    let lt : n < count = row_inside bytes n s.entry s.entry-is in
    let apart : (not (is_in seen n) && differ_after nat_eq (seen ++ n ∷ []) s.below) ≡ true = subst (λ (us : List ℕ). differ_after nat_eq seen us ≡ true) s.uses-is d in
    let two = both (not (is_in seen n)) (differ_after nat_eq (seen ++ n ∷ []) s.below) apart in
    let unmarked : get_or marks n false ≡ false = m.each n lt ∙ not_false (is_in seen n) two.0 in
    let here : Marked count (slice_set marks n true) (seen ++ n ∷ []) = marked_more count n marks seen lt m in
    let rows : rows_of bytes s.entry ≡ Ok s.rows = subst (λ (k : ℕ). rows_from bytes s.entry 0 k [] ≡ Ok s.rows) s.count (rows_read bytes s.entry 0 [] s.rows s.rows-stand s.distinct) in
    let below = fields_complete count (node_at depth bytes) (NodeStands depth bytes) agrees s.rows (slice_set marks n true) (seen ++ n ∷ []) fields s.below here s.fields-stand two.1 in (
      below.0,
      rw (entered_is depth bytes n marks s.entry s.entry-is unmarked, rows, below.1) (ap (λ (k : ℕ). Ok (Struct k fields, below.0)) s.kind-is),
      subst (λ (us : List ℕ). Marked count below.0 (seen ++ us)) (sym s.uses-is) (subst (Marked count below.0) (append_assoc seen (n ∷ []) s.below) below.2),
    )

none_at : (bytes : List ℕ) (n : ℕ) (marks : Marks) (r : PlainNode × Marks) → node_at 0 bytes n marks ≡ Ok r → ⊥
none_at bytes n marks r e =
    let b = bind_ok (struct_entered 0 bytes n marks) (below 0 bytes n marks) r (sym (node_step 0 bytes n marks) ∙ e) in
    let i = entered_ok 0 bytes n marks b.0 b.1 in
    absurd (omega (arith, i.2))

pub node_agrees : (bytes : List ℕ) (depth : ℕ) → Agrees (struct_count bytes) (node_at depth bytes) (NodeStands depth bytes)
node_agrees bytes zero = record {
  sound = λ n marks seen node after m e. absurd (none_at bytes n marks (node, after) e);
  complete = λ n marks seen node uses m s d. absurd s;
}
node_agrees bytes (suc depth) = record {
  sound = node_sound bytes depth (node_agrees bytes depth);
  complete = node_complete bytes depth (node_agrees bytes depth);
}
