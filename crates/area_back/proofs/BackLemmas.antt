-- The steps of the way back.
use Rattle.std.proofs.Common.{◌≡◌, ◌<◌, ◌≤◌, ◌+◌, ℕ, zero, suc, min, Bool, true, false, cond, not, ◌||◌, List, [], ◌∷◌, ◌++◌, length, map, filter, get_or, set, take, drop, drop-cons, add-one, Option}
use Rattle.std.proofs.Common.{None, Some, Result, Ok, Err, refl, sym, ap, subst, ◌∙◌, arith}
use Rattle.std.specs.Prelude.{codes}
use Rattle.std.proofs.Common.{◌⊎◌, inl, inr}
use Rattle.std.specs.Result.{OnOk, IfOk}
use Rattle.nwq_value.specs.declared.memory.NoMemory.{NoMemory}
use Rattle.std.proofs.lemmas.Bool.{cases_lt}
use Rattle.std.proofs.lemmas.List.{take_all, drop_all}
use Rattle.gff_tree.specs.Fields.{kind_of, fields_of, node_from, list_from, found, replaced, FieldsAreTheNodes, NodeIsItsFields, NodesAreTheLists}
use Rattle.std.specs.List.{list_any}
use Rattle.std.proofs.lemmas.List.{length-map, map-set, get_or-map}
use Rattle.std.proofs.lemmas.List.Edits.{map_over_more}
use Rattle.std.specs.Option.{option_map}
use Rattle.std.specs.Str.{bytes_eq}
use Rattle.gff_tree.specs.declared.tree.Leaf.{Leaf}
use Rattle.gff_tree.specs.declared.tree.Node.{Node}
use Rattle.gff_tree.specs.Tree.{PlainNode, PlainLeaf, PlainField, Holds, Child, Children, Int, Str, plain_node, plain_leaf, nodes_in, nodes_from}
use Rattle.local_variables.specs.Variables.{Variable, IntVar, TextVar, is_int, is_text, same_variable, first, matching, int_of, text_of}
use Rattle.area_rules.specs.Objects.{AreaObject, Entry, Broken, Unread, Tells, with_entry, entry_of, variables_in, structs_in}
use Rattle.area_back.specs.Back.{value_of, new_entry, is_kept, valued, entries_back, table_back, leaf_back, fields_back, member_back, members_back, objects_back, list_back, lists_back}
use Rattle.area_back.specs.Current.{current, with_told}
use Rattle.local_variables.specs.Laws.{PutIsThere}

-- ---- the value of a variable

first_int : (name : List ℕ) (vars : List Variable) → list_any (is_int name) vars ≡ true → option_map value_of (first (is_int name) vars) ≡ Some (Holds (Int (int_of (first (is_int name) vars))))
first_int name [] there = absurd cc
first_int name (TextVar own text ∷ vars) there = first_int name vars there
first_int name (IntVar own m ∷ vars) there = by_test (bytes_eq name own) there (first_int name vars)
  where
    by_test : (b : Bool) → (b || list_any (is_int name) vars) ≡ true
        → (list_any (is_int name) vars ≡ true
        → option_map value_of (first (is_int name) vars) ≡ Some (Holds (Int (int_of (first (is_int name) vars))))) →
        option_map value_of (cond b (Some (IntVar own m)) (first (is_int name) vars)) ≡ Some (Holds (Int (int_of (cond b (Some (IntVar own m)) (first (is_int name) vars)))))
    by_test true h more = refl
    by_test false h more = more h

first_text : (name : List ℕ) (vars : List Variable) → list_any (is_text name) vars ≡ true → option_map value_of (first (is_text name) vars) ≡ Some (Holds (Str (text_of (first (is_text name) vars))))
first_text name [] there = absurd cc
first_text name (IntVar own n ∷ vars) there = first_text name vars there
first_text name (TextVar own text ∷ vars) there = by_test (bytes_eq name own) there (first_text name vars)
  where
    by_test : (b : Bool) → (b || list_any (is_text name) vars) ≡ true
        → (list_any (is_text name) vars ≡ true
        → option_map value_of (first (is_text name) vars) ≡ Some (Holds (Str (text_of (first (is_text name) vars))))) →
        option_map value_of (cond b (Some (TextVar own text)) (first (is_text name) vars)) ≡ Some (Holds (Str (text_of (cond b (Some (TextVar own text)) (first (is_text name) vars)))))
    by_test true h more = refl
    by_test false h more = more h

pub value_known : (v : Variable) (vars : List Variable) → list_any (same_variable v) vars ≡ true → option_map value_of (matching v vars) ≡ Some (current v vars)
value_known (IntVar name n) vars there = first_int name vars there
value_known (TextVar name text) vars there = first_text name vars there

none_first : (test : Variable → Bool) (vars : List Variable) → list_any test vars ≡ false → first test vars ≡ None
none_first test [] e = refl
none_first test (w ∷ vars) e = by_test (test w) e (none_first test vars)
  where
    by_test : (b : Bool) → (b || list_any test vars) ≡ false → (list_any test vars ≡ false → first test vars ≡ None) → cond b (Some w) (first test vars) ≡ None
    by_test true h more = absurd cc
    by_test false h more = more h

pub value_unknown : (v : Variable) (vars : List Variable) → list_any (same_variable v) vars ≡ false → matching v vars ≡ None
value_unknown v vars none = none_first (same_variable v) vars none

-- ---- lists of the program's structs and of plain ones

pub kept_plain : (test : PlainNode → Bool) (nodes : List Node) → map plain_node (filter (λ n. test (plain_node n)) nodes) ≡ filter test (map plain_node nodes)
kept_plain test [] = refl
kept_plain test (n ∷ nodes) = by_test (test (plain_node n)) (kept_plain test nodes)
  where
    by_test : (b : Bool) → map plain_node (filter (λ m. test (plain_node m)) nodes) ≡ filter test (map plain_node nodes) →
        map plain_node (cond b (n ∷ filter (λ m. test (plain_node m)) nodes) (filter (λ m. test (plain_node m)) nodes))
        ≡ cond b (plain_node n ∷ filter test (map plain_node nodes)) (filter test (map plain_node nodes))
    by_test true h = ap (λ (ns : List PlainNode). plain_node n ∷ ns) h
    by_test false h = h

-- a struct at a place is changed
pub changed_plain : (change : PlainNode → PlainNode) (first now : List Node) (i : ℕ) (old new : Node) → i < length first
    → map plain_node now ≡ map change (take i (map plain_node first)) ++ drop i (map plain_node first) →
    old ≡ get_or now i old → i < length now → plain_node new ≡ change (plain_node old) →
    map plain_node (set now i new) ≡ map change (take (i + 1) (map plain_node first)) ++ drop (i + 1) (map plain_node first)
changed_plain change first now i old new lt at is within made =
    let long : i < length (map plain_node first) = omega (arith, lt, length-map first plain_node) in
    let held : plain_node old ≡ get_or (map plain_node now) i (plain_node old) = ap plain_node is ∙ sym (get_or-map plain_node now i old (plain_node old) within) in
    map-set plain_node now i new
    ∙ (ap (set (map plain_node now) i) made ∙ map_over_more change (map plain_node first) (map plain_node now) i (plain_node old) long at held)

-- ---- the variables that entries tell

told_step : PutIsThere → (v : Variable) (told now : List Variable) (entry : Entry) (rest : List Variable) (whole : Bool)
    → (list_any (same_variable v) told || list_any (same_variable v) (with_entry entry rest)) ≡ whole
    → now ≡ with_told told entry →
    (list_any (same_variable v) now || list_any (same_variable v) rest) ≡ whole
told_step law v told now Broken rest whole at is = ap (λ (vs : List Variable). list_any (same_variable v) vs || list_any (same_variable v) rest) is ∙ at
told_step law v told now Unread rest whole at is = ap (λ (vs : List Variable). list_any (same_variable v) vs || list_any (same_variable v) rest) is ∙ at
told_step law v told now (Tells w) rest whole at is =
    ap (λ (vs : List Variable). list_any (same_variable v) vs || list_any (same_variable v) rest) is
    ∙ (ap (λ (b : Bool). b || list_any (same_variable v) rest) (law w v told) ∙ (swapped (same_variable v w) (list_any (same_variable v) told) (list_any (same_variable v) rest) ∙ at))
  where
    swapped : (a b c : Bool) → ((a || b) || c) ≡ (b || (a || c))
    swapped true true c = refl
    swapped true false c = refl
    swapped false b c = refl

-- the entry at a place of a table, and those behind it
next_node : (entries : List Node) (i : ℕ) (entry : Node) → i < length entries → entry ≡ get_or entries i entry → drop i entries ≡ entry ∷ drop (i + 1) entries
next_node entries i entry lt is = rw (add-one, drop-cons entries i entry) (ap (λ (n : Node). n ∷ drop (suc i) entries) (sym is))

pub told_next : PutIsThere → (told now : List Variable) (entries : List Node) (i : ℕ) (entry : Node) → i < length entries → entry ≡ get_or entries i entry →
    ((v : Variable) → (list_any (same_variable v) told
    || list_any (same_variable v) (variables_in (map plain_node (drop i entries))))
    ≡ list_any (same_variable v) (variables_in (map plain_node entries))) →
    now ≡ with_told told (entry_of (plain_node entry)) →
    (v : Variable) → (list_any (same_variable v) now
    || list_any (same_variable v) (variables_in (map plain_node (drop (i + 1) entries))))
    ≡ list_any (same_variable v) (variables_in (map plain_node entries))
told_next law told now entries i entry lt is at grown v =
    let open_at = subst (λ (ns : List Node).
    (list_any (same_variable v) told || list_any (same_variable v) (variables_in (map plain_node ns)))
    ≡ list_any (same_variable v) (variables_in (map plain_node entries))) (next_node entries i entry lt is)
    (at v) in
    told_step law v told now (entry_of (plain_node entry)) (variables_in (map plain_node (drop (i + 1) entries))) (list_any (same_variable v) (variables_in (map plain_node entries))) open_at grown

told_end_or : (a : Bool) → (a || false) ≡ a
told_end_or true = refl
told_end_or false = refl

pub told_end : (told : List Variable) (entries : List Node) (i : ℕ) → length entries ≤ i →
    ((v : Variable) → (list_any (same_variable v) told
    || list_any (same_variable v) (variables_in (map plain_node (drop i entries))))
    ≡ list_any (same_variable v) (variables_in (map plain_node entries))) →
    (v : Variable) → list_any (same_variable v) told ≡ list_any (same_variable v) (variables_in (map plain_node entries))
told_end told entries i past at v =
    let none : drop i entries ≡ [] = drop_all i entries past in
    sym (told_end_or (list_any (same_variable v) told))
    ∙ subst (λ (ns : List Node).
    (list_any (same_variable v) told || list_any (same_variable v) (variables_in (map plain_node ns)))
    ≡ list_any (same_variable v) (variables_in (map plain_node entries))) none (at v)

-- ---- the first of a list

take_none : {X : Type 0} (n : ℕ) → take {A = X} n [] ≡ []
take_none zero = refl
take_none (suc n) = refl

-- ---- the members of a list

members_end : (objects : List AreaObject) (nodes : List PlainNode) (n : ℕ) → length nodes ≤ n → members_back (take n objects) nodes ≡ members_back objects nodes
members_end [] nodes n le = ap (λ (os : List AreaObject). members_back os nodes) (take_none n)
members_end (o ∷ objects) [] zero le = refl
members_end (o ∷ objects) [] (suc n) le = refl
members_end (o ∷ objects) (node ∷ nodes) zero le = absurd (omega (arith, le))
members_end (o ∷ objects) (node ∷ nodes) (suc n) le = ap (λ (ns : List PlainNode). member_back o.vars node ∷ ns) (members_end objects nodes n (omega (arith, le)))

members_more : (objects : List AreaObject) (nodes : List PlainNode) (i : ℕ) (o : AreaObject) (d : PlainNode) → i < length objects → i < length nodes → o ≡ get_or objects i o →
    members_back (take (suc i) objects) nodes ≡ set (members_back (take i objects) nodes) i (member_back o.vars (get_or nodes i d))
members_more [] nodes i o d in_objects in_nodes is = absurd (omega (arith, in_objects))
members_more (a ∷ objects) [] i o d in_objects in_nodes is = absurd (omega (arith, in_nodes))
members_more (a ∷ objects) (n ∷ nodes) zero o d in_objects in_nodes is = ap (λ (x : AreaObject). member_back x.vars n ∷ nodes) (sym is)
members_more (a ∷ objects) (n ∷ nodes) (suc i) o d in_objects in_nodes is =
    ap (λ (ns : List PlainNode). member_back a.vars n ∷ ns) (members_more objects nodes i o d (omega (arith, in_objects)) (omega (arith, in_nodes)) is)

members_later : (objects : List AreaObject) (nodes : List PlainNode) (i : ℕ) (d : PlainNode) → get_or (members_back (take i objects) nodes) i d ≡ get_or nodes i d
members_later [] nodes i d = ap (λ (os : List AreaObject). get_or (members_back os nodes) i d) (take_none i)
members_later (a ∷ objects) nodes zero d = refl
members_later (a ∷ objects) [] (suc i) d = refl
members_later (a ∷ objects) (n ∷ nodes) (suc i) d = members_later objects nodes i d

pub members_turn : (objects : List AreaObject) (first now : List Node) (i : ℕ) (o : AreaObject) (old new : Node) → i < length objects → i < length first → o ≡ get_or objects i o →
    map plain_node now ≡ members_back (take i objects) (map plain_node first) → i < length now → old ≡ get_or now i old → plain_node new ≡ member_back o.vars (plain_node old) →
    map plain_node (set now i new) ≡ members_back (take (i + 1) objects) (map plain_node first)
members_turn objects first now i o old new in_objects in_first is at in_now held made =
    let held_plain : plain_node old ≡ get_or (map plain_node now) i (plain_node old) = ap plain_node held ∙ sym (get_or-map plain_node now i old (plain_node old) in_now) in
    let was : get_or (map plain_node first) i (plain_node old) ≡ plain_node old =
    sym (members_later objects (map plain_node first) i (plain_node old)) ∙ (ap (λ (ns : List PlainNode). get_or ns i (plain_node old)) (sym at) ∙ sym held_plain) in
    let grown = members_more objects (map plain_node first) i o (plain_node old) in_objects (omega (arith, in_first, length-map first plain_node)) is in
    map-set plain_node now i new
    ∙ (ap (λ (ns : List PlainNode). set ns i (plain_node new)) at
    ∙ (ap (set (members_back (take i objects) (map plain_node first)) i) (made ∙ ap (member_back o.vars) (sym was))
    ∙ (sym grown ∙ ap (λ (k : ℕ). members_back (take k objects) (map plain_node first)) (one_more i))))
  where
    one_more : (n : ℕ) → suc n ≡ n + 1
    one_more n = omega arith

pub members_done : (objects : List AreaObject) (nodes : List Node) (i : ℕ) → min (length nodes) (length objects) ≤ i
    → members_back (take i objects) (map plain_node nodes) ≡ members_back objects (map plain_node nodes)
members_done objects nodes i le = by_end (cases_lt i (length objects))
  where
    by_end : (i < length objects) ⊎ (length objects ≤ i) → members_back (take i objects) (map plain_node nodes) ≡ members_back objects (map plain_node nodes)
    by_end (inr all) = ap (λ (os : List AreaObject). members_back os (map plain_node nodes)) (take_all i objects all)
    by_end (inl less) = members_end objects (map plain_node nodes) i (omega (arith, le, less, length-map nodes plain_node))

-- ---- the objects that are left

-- the next of what is left
pub record IsNext {X : Type 0} (xs : List X) (i : ℕ) (x : X) (after : List X) : Type 0 where
  pub inside : i < length xs
  pub at : x ≡ get_or xs i x
  pub left : after ≡ drop (suc i) xs

pub next_of : {X : Type 0} (xs : List X) (i : ℕ) (x : X) (after : List X) → drop i xs ≡ x ∷ after → IsNext xs i x after
next_of [] zero x after e = absurd cc
next_of [] (suc i) x after e = absurd cc
next_of (y ∷ xs) zero x after e = record { inside = omega arith; at = cc; left = cc }
next_of (y ∷ xs) (suc i) x after e =
    let more = next_of xs i x after e in record { inside = (let h = more.inside in omega (arith, h)); at = more.at; left = more.left }

-- a list has no more objects than members
objects_first : (objects : List AreaObject) (leaf : PlainLeaf) → objects_back (take (length (structs_in (Some leaf))) objects) leaf ≡ objects_back objects leaf
objects_first objects (Holds scalar) = refl
objects_first objects (Child node) = refl
objects_first objects (Children nodes) = ap list_from (members_end objects (nodes_in nodes) (length (nodes_in nodes)) (omega arith))

list_first : (label : List ℕ) (objects : List AreaObject) (leaf : Option PlainLeaf) (fields : List PlainField)
    → list_back label (take (length (structs_in leaf)) objects) leaf fields ≡ list_back label objects leaf fields
list_first label objects None fields = refl
list_first label objects (Some leaf) fields = ap (λ (l : PlainLeaf). replaced label l fields) (objects_first objects leaf)

-- ---- a field that is replaced twice

replaced_twice_at : (b : Bool) (label : List ℕ) (x y : PlainLeaf) (field : PlainField) (fields : List PlainField)
    → bytes_eq label field.label ≡ b → replaced label y (replaced label x fields) ≡ replaced label y fields →
    replaced label y (cond b (record field { leaf = x } ∷ fields) (field ∷ replaced label x fields)) ≡ cond b (record field { leaf = y } ∷ fields) (field ∷ replaced label y fields)
replaced_twice_at true label x y field fields is more = rw is refl
replaced_twice_at false label x y field fields is more = rw is (ap (λ (fs : List PlainField). field ∷ fs) more)

pub replaced_twice : (label : List ℕ) (x y : PlainLeaf) (fields : List PlainField) → replaced label y (replaced label x fields) ≡ replaced label y fields
replaced_twice label x y [] = refl
replaced_twice label x y (field ∷ fields) = replaced_twice_at (bytes_eq label field.label) label x y field fields refl (replaced_twice label x y fields)

pub replaced_none : (label : List ℕ) (x : PlainLeaf) (fields : List PlainField) → found label fields ≡ None → replaced label x fields ≡ fields
replaced_none label x [] none = refl
replaced_none label x (field ∷ fields) none = by_test (bytes_eq label field.label) none (replaced_none label x fields)
  where
    by_test : (b : Bool) → cond b (Some field.leaf) (found label fields) ≡ None → (found label fields ≡ None → replaced label x fields ≡ fields) →
        cond b (record field { leaf = x } ∷ fields) (field ∷ replaced label x fields) ≡ field ∷ fields
    by_test true h more = absurd cc
    by_test false h more = ap (λ (fs : List PlainField). field ∷ fs) (more h)

-- a struct whose field is taken out, where there is none
pub taken_none : FieldsAreTheNodes → NodeIsItsFields → (node now : PlainNode) (label : List ℕ) (x : PlainLeaf)
    → found label (fields_of node) ≡ None → now ≡ node_from (kind_of node) (replaced label x (fields_of node))
    → now ≡ node
taken_none fields whole node now label x none is = is ∙ (ap (node_from (kind_of node)) (replaced_none label x (fields_of node) none) ∙ whole node)

-- a struct whose field is taken out and put back as another
pub taken_back : FieldsAreTheNodes → (node between now : PlainNode) (label : List ℕ) (x y : PlainLeaf) → between ≡ node_from (kind_of node) (replaced label x (fields_of node)) →
    now ≡ node_from (kind_of between) (replaced label y (fields_of between)) → now ≡ node_from (kind_of node) (replaced label y (fields_of node))
taken_back law node between now label x y first second =
    let opened : now ≡ node_from (kind_of node) (replaced label y (fields_of (node_from (kind_of node) (replaced label x (fields_of node))))) =
    second ∙ ap (λ (n : PlainNode). node_from (kind_of n) (replaced label y (fields_of n))) first in
    opened ∙ ap (node_from (kind_of node)) (ap (replaced label y) (law (kind_of node) (replaced label x (fields_of node))) ∙ replaced_twice label x y (fields_of node))

pub member_some : (vars : List Variable) (node : PlainNode) (table : PlainLeaf) → found (codes "VarTable") (fields_of node) ≡ Some table →
    member_back vars node ≡ node_from (kind_of node) (replaced (codes "VarTable") (leaf_back vars table) (fields_of node))
member_some vars node table is =
    ap (node_from (kind_of node)) (ap (λ (o : Option PlainLeaf). fields_back vars o (fields_of node)) is ∙ by_vars vars)
  where
    by_vars : (vs : List Variable) → fields_back vs (Some table) (fields_of node) ≡ replaced (codes "VarTable") (leaf_back vs table) (fields_of node)
    by_vars [] = refl
    by_vars (v ∷ vs) = refl

-- ---- the lists of the top struct

pub lists_turn : FieldsAreTheNodes → (labels later : List (List ℕ)) (label : List ℕ) (rest next : List AreaObject) (top now whole : PlainNode) →
    labels ≡ label ∷ later → node_from (kind_of top) (lists_back labels rest (fields_of top)) ≡ whole →
    now ≡ node_from (kind_of top) (list_back label rest (found label (fields_of top)) (fields_of top)) → next ≡ drop (length (structs_in (found label (fields_of top)))) rest →
    node_from (kind_of now) (lists_back later next (fields_of now)) ≡ whole
lists_turn law labels later label rest next top now whole is at made left =
    let fs = fields_of top in
    let k = length (structs_in (found label fs)) in
    let opened : node_from (kind_of top) (lists_back later (drop k rest) (list_back label (take k rest) (found label fs) fs)) ≡ whole =
    subst (λ (ls : List (List ℕ)). node_from (kind_of top) (lists_back ls rest fs) ≡ whole) is at in
    let same : now ≡ node_from (kind_of top) (list_back label (take k rest) (found label fs) fs) = made
    ∙ ap (node_from (kind_of top)) (sym (list_first label rest (found label fs) fs)) in
    ap (λ (p : PlainNode). node_from (kind_of p) (lists_back later next (fields_of p))) same
    ∙ (ap (λ (os : List AreaObject). node_from (kind_of top)
    (lists_back later os (fields_of (node_from (kind_of top) (list_back label (take k rest) (found label fs) fs))))) left
    ∙ (ap (λ (gs : List PlainField). node_from (kind_of top) (lists_back later (drop k rest) gs)) (law (kind_of top) (list_back label (take k rest) (found label fs) fs)) ∙ opened))

-- ---- a table and the fields that hold it

filter_same : (p q : Variable → Bool) (vars : List Variable) → ((v : Variable) → p v ≡ q v) → filter p vars ≡ filter q vars
filter_same p q [] same = refl
filter_same p q (v ∷ vars) same = by_test (p v) (q v) (same v) (filter_same p q vars same)
  where
    by_test : (a b : Bool) → a ≡ b → filter p vars ≡ filter q vars → cond a (v ∷ filter p vars) (filter p vars) ≡ cond b (v ∷ filter q vars) (filter q vars)
    by_test a b is more = ap (λ (c : Bool). cond c (v ∷ filter p vars) (filter p vars)) is ∙ ap (λ (vs : List Variable). cond b (v ∷ vs) vs) more

pub table_made : (vars told : List Variable) (entries kept changed new : List PlainNode) (r : Result (Unit {0}) NoMemory) →
    ((v : Variable) → list_any (same_variable v) told ≡ list_any (same_variable v) (variables_in entries)) → kept ≡ filter (is_kept vars) entries → changed ≡ map (valued vars) kept →
    OnOk r (new ≡ changed ++ map new_entry (filter (λ v. not (list_any (same_variable v) told)) vars)) → OnOk r (new ≡ table_back vars entries)
table_made vars told entries kept changed new (Err e) tells kept_is changed_is made = tt
table_made vars told entries kept changed new (Ok u) tells kept_is changed_is made =
    let same = filter_same (λ v. not (list_any (same_variable v) told)) (λ v. not (list_any (same_variable v) (variables_in entries))) vars (λ v. ap not (tells v)) in
    made ∙ (ap (λ (ns : List PlainNode). ns ++ map new_entry (filter (λ v. not (list_any (same_variable v) told)) vars)) (changed_is ∙ ap (map (valued vars)) kept_is)
    ∙ ap (λ (vs : List Variable). entries_back vars entries ++ map new_entry vs) same)

some_same : {X : Type 0} (x y : X) → Some x ≡ Some y → x ≡ y
some_same x y e = cc

pub leaf_back_list : NodesAreTheLists → (vars : List Variable) (leaf : PlainLeaf) (nodes : List PlainNode) → leaf ≡ list_from nodes → leaf_back vars leaf ≡ list_from (table_back vars nodes)
leaf_back_list law vars leaf nodes is =
    ap (leaf_back vars) is ∙ ap (λ (ns : List PlainNode). list_from (table_back vars ns)) (some_same (nodes_in (nodes_from nodes)) nodes (law nodes))

-- a field that a call made, as it is wanted
pub leaf_along : (wanted made : PlainLeaf) (r : Result Leaf NoMemory) → made ≡ wanted → IfOk r (λ (leaf : Leaf). plain_leaf leaf ≡ made) → IfOk r (λ (leaf : Leaf). plain_leaf leaf ≡ wanted)
leaf_along wanted made (Ok leaf) is e = e ∙ is
leaf_along wanted made (Err e) is h = tt

none_left : (vars : List Variable) → length vars ≡ 0 → vars ≡ []
none_left [] e = refl
none_left (v ∷ vars) e = absurd (omega (arith, e))

pub empty_member : NodeIsItsFields → (vars : List Variable) (node : PlainNode) → length vars ≡ 0 → found (codes "VarTable") (fields_of node) ≡ None → node ≡ member_back vars node
empty_member law vars node none absent =
    sym (law node) ∙ ap (node_from (kind_of node)) (sym (ap (λ (vs : List Variable). fields_back vs (found (codes "VarTable") (fields_of node)) (fields_of node)) (none_left vars none)
    ∙ ap (λ (o : Option PlainLeaf). fields_back [] o (fields_of node)) absent))

pub ok_along : (node wanted now : PlainNode) (r : Result (Unit {0}) NoMemory) (back_of : PlainNode → PlainNode) → node ≡ wanted → OnOk r (now ≡ back_of node) → OnOk r (now ≡ back_of wanted)
ok_along node wanted now (Ok u) back_of is e = e ∙ ap back_of is
ok_along node wanted now (Err e) back_of is h = tt
