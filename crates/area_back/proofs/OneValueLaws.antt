-- After a variable that an object has is put, its value alone differs in the tree that goes back.
use Rattle.std.proofs.Common.{◌≡◌, ◌<◌, ◌≤◌, ◌+◌, ◌-◌, ℕ, zero, suc, Bool, true, false, cond, not, ◌||◌, List, [], ◌∷◌, ◌++◌, map, filter, length, take, drop, Option, None, Some, refl, sym, ap, subst}
use Rattle.std.proofs.Common.{◌∙◌, arith}
use Rattle.std.proofs.Common.{◌⊎◌, inl, inr}
use Rattle.std.specs.Prelude.{codes}
use Rattle.std.specs.List.{list_any, slice_get, IsDistinct, AllByRecursion}
use Rattle.std.specs.Str.{bytes_eq}
use Rattle.std.proofs.lemmas.Bool.{cases_lt}
use Rattle.std.proofs.lemmas.List.{append-nil}
use Rattle.gff_tree.specs.Tree.{PlainNode, PlainLeaf, PlainField, Holds, Child, Children, nodes_in}
use Rattle.gff_tree.specs.Fields.{kind_of, fields_of, node_from, list_from, found, replaced}
use Rattle.local_variables.specs.Variables.{Variable, same_variable, matching, put}
use Rattle.area_rules.specs.Objects.{AreaObject, Entry, Broken, Unread, Tells, entry_of, with_entry, variables_in, structs_in, object_of, list_labels, objects_under}
use Rattle.area_rules.specs.Broken.{tag_places, table_places, member_places, members_places, list_places, lists_places}
use Rattle.area_back.specs.Back.{with_value, entries_back, others, table_back, fields_back, member_back, members_back, list_back, lists_back}
use Rattle.area_rules.specs.Area.{object_at, variables_changed_at}
use Rattle.area_back.specs.Laws.{changed_node, changed_list, changed_in, with_new_value, EntryFor, variable_table, PutChangesOneValue}
use Rattle.area_back.proofs.UnchangedLaws.{Laws, none_parts, AllFound, all_found, found_any, one_back, entries_one, one_same, entries_same, later_all, some_back, member_same, members_same, list_same}
use Rattle.area_back.proofs.UnchangedLaws.{lists_same, taken, dropped}
use Rattle.area_back.proofs.ReadBackLaws.{AllOther, under_same, places_same, labels_distinct}

-- ---- a table

found_after : Laws → (v u : Variable) (vars : List Variable) → matching u vars ≡ Some u → same_variable u v ≡ false → matching u (put v vars) ≡ Some u
found_after law v u vars is apart = law.found v u vars ∙ rw apart is

all_after : Laws → (v : Variable) (vars some : List Variable) → AllByRecursion (λ u. same_variable v u ≡ false) some → AllFound vars some → AllFound (put v vars) some
all_after law v vars [] apart all = tt
all_after law v vars (u ∷ some) apart all = (found_after law v u vars all.0 (law.same.symm u v ∙ apart.0), all_after law v vars some apart.1 all.1)

abbrev pub Changed : Variable → List PlainNode → List PlainNode → Type 0
Changed v before after = (e : EntryFor v before) × (after ≡ changed_node e.place (with_new_value v) before)

later_change : (v : Variable) (entry : PlainNode) (before after now : List PlainNode) → now ≡ entry ∷ after → Changed v before after → Changed v (entry ∷ before) now
later_change v entry before after now is c =
    (record { place = suc c.0.place; entry = c.0.entry; told = c.0.told; at = c.0.at; tells = c.0.tells; same = c.0.same }, is ∙ ap (λ (ns : List PlainNode). entry ∷ ns) c.1)

like_apart_all : Laws → (v u : Variable) (some : List Variable) → same_variable v u ≡ true → AllByRecursion (λ y. same_variable u y ≡ false) some → AllByRecursion (λ y. same_variable v y ≡ false) some
like_apart_all law v u [] same all = tt
like_apart_all law v u (y ∷ some) same all = (law.same.congr v u y same ∙ all.0, like_apart_all law v u some same all.1)

entry_changed : Laws → (v : Variable) (vars : List Variable) (entry : PlainNode) (entries : List PlainNode) (e : Entry) → entry_of entry ≡ e → AllFound vars (with_entry e (variables_in entries)) →
    IsDistinct same_variable (with_entry e (variables_in entries)) → list_any (same_variable v) (with_entry e (variables_in entries)) ≡ true →
    (IsDistinct same_variable (variables_in entries) → list_any (same_variable v) (variables_in entries) ≡ true → Changed v entries (entries_back (put v vars) entries)) →
    Changed v (entry ∷ entries) (one_back (put v vars) e entry (entries_back (put v vars) entries))
unfolding IsDistinct
entry_changed law v vars entry entries Broken is all d any more = later_change v entry entries (entries_back (put v vars) entries) _ refl (more d any)
entry_changed law v vars entry entries Unread is all d any more = later_change v entry entries (entries_back (put v vars) entries) _ refl (more d any)
entry_changed law v vars entry entries (Tells u) is all d any more = by_test (same_variable v u) refl any
  where
    rest : List PlainNode
    rest = entries_back (put v vars) entries

    here : (w : Variable) → matching u (put v vars) ≡ Some w → one_back (put v vars) (Tells u) entry rest ≡ with_value (Some w) entry ∷ rest
    here w at = rw (found_any u w (put v vars) at, at) refl

    by_test : (b : Bool) → same_variable v u ≡ b → (b || list_any (same_variable v) (variables_in entries)) ≡ true → Changed v (entry ∷ entries) (one_back (put v vars) (Tells u) entry rest)
    by_test true same h = (
      record { place = zero; entry = entry; told = u; at = refl; tells = is; same = same },
      here v (law.found v u vars ∙ rw (law.same.symm u v ∙ same) refl)
          ∙ ap (λ (ns : List PlainNode). with_new_value v entry ∷ ns)
          (entries_same law (put v vars) entries
          (all_after law v vars (variables_in entries)
          (like_apart_all law v u (variables_in entries) same d.0) all.1)),
    )
    by_test false same h =
        later_change v entry entries rest _ (one_same law (put v vars) entry rest (Tells u) [] is (found_after law v u vars all.0 (law.same.symm u v ∙ same), tt)) (more d.1 h)

entries_changed : Laws → (v : Variable) (vars : List Variable) (entries : List PlainNode) → AllFound vars (variables_in entries) → IsDistinct same_variable (variables_in entries) →
    list_any (same_variable v) (variables_in entries) ≡ true → Changed v entries (entries_back (put v vars) entries)
entries_changed law v vars [] all d any = absurd cc
entries_changed law v vars (entry ∷ entries) all d any =
    subst (Changed v (entry ∷ entries)) (sym (entries_one (put v vars) entry entries))
    (entry_changed law v vars entry entries (entry_of entry) refl all d any (entries_changed law v vars entries (later_all vars (variables_in entries) (entry_of entry) all)))

no_other : (some vars : List Variable) → AllByRecursion (λ y. list_any (same_variable y) some ≡ true) vars → filter (λ y. not (list_any (same_variable y) some)) vars ≡ []
no_other some [] all = refl
no_other some (y ∷ vars) all = rw all.0 (no_other some vars all.1)

all_there : (vars some : List Variable) → AllFound vars some → AllByRecursion (λ y. list_any (same_variable y) vars ≡ true) some
all_there vars [] all = tt
all_there vars (y ∷ some) all = (found_any y y vars all.0, all_there vars some all.1)

there_put : (v : Variable) (some vars : List Variable) → list_any (same_variable v) some ≡ true → AllByRecursion (λ y. list_any (same_variable y) some ≡ true) vars →
    AllByRecursion (λ y. list_any (same_variable y) some ≡ true) (put v vars)
there_put v some [] there all = (there, tt)
there_put v some (w ∷ vars) there all = by_test (same_variable v w) (there_put v some vars there all.1)
  where
    by_test : (b : Bool) → AllByRecursion (λ y. list_any (same_variable y) some ≡ true) (put v vars) → AllByRecursion (λ y. list_any (same_variable y) some ≡ true) (cond b (v ∷ vars) (w ∷ put v vars))
    by_test true more = (there, all.1)
    by_test false more = (all.0, more)

table_changed : Laws → (v : Variable) (entries : List PlainNode) → IsDistinct same_variable (variables_in entries) → list_any (same_variable v) (variables_in entries) ≡ true →
    Changed v entries (table_back (put v (variables_in entries)) entries)
table_changed law v entries d any =
    let vars = variables_in entries in
    let all = all_found law vars d in
    let none : others (put v vars) entries ≡ [] = no_other vars (put v vars) (there_put v vars vars any (all_there vars vars all)) in
    subst (Changed v entries) (sym (rw none (append-nil (entries_back (put v vars) entries)))) (entries_changed law v vars entries all d any)

-- ---- a member

abbrev pub MemberChanged : Variable → PlainNode → PlainNode → Type 0
MemberChanged v before after = (e : EntryFor v (variable_table before)) × (after ≡ changed_in (codes "VarTable") e.place (with_new_value v) before)

fields_changed : Laws → (n m : ℕ) (v : Variable) (table : Option PlainLeaf) (fields : List PlainField) → found (codes "VarTable") fields ≡ table → table_places n m table ≡ [] →
    list_any (same_variable v) (variables_in (structs_in table)) ≡ true →
    (e : EntryFor v (structs_in table)) × (fields_back (put v (variables_in (structs_in table))) table fields ≡ changed_list (codes "VarTable") e.place (with_new_value v) table fields)
fields_changed law n m v None fields is none any = absurd cc
fields_changed law n m v (Some (Holds scalar)) fields is none any = absurd cc
fields_changed law n m v (Some (Child node)) fields is none any = absurd cc
fields_changed law n m v (Some (Children entries)) fields is none any =
    let c = table_changed law v (nodes_in entries) (law.tables n m (Some (Children entries)) none) any in
    (c.0, some_back (put v (variables_in (nodes_in entries))) (Children entries) fields ∙ ap (λ (ns : List PlainNode). replaced (codes "VarTable") (list_from ns) fields) c.1)

member_changed : Laws → (n m : ℕ) (v : Variable) (node : PlainNode) → member_places n m node ≡ []
    → list_any (same_variable v) (object_of node).vars ≡ true
    → MemberChanged v node (member_back (put v (object_of node).vars) node)
member_changed law n m v node none any =
    let table = found (codes "VarTable") (fields_of node) in
    let c = fields_changed law n m v table (fields_of node) refl (none_parts (tag_places n m (found (codes "Tag") (fields_of node))) (table_places n m table) none).1 any in
    (c.0, ap (node_from (kind_of node)) c.1)

-- a member of a list at a place
record NodesChanged (i : ℕ) (v : Variable) (before after : List PlainNode) : Type 0 where
  node : PlainNode
  at : slice_get before i ≡ Some node
  object : object_at (map object_of before) i ≡ object_of node
  entry : EntryFor v (variable_table node)
  is : after ≡ changed_node i (changed_in (codes "VarTable") entry.place (with_new_value v)) before

members_changed : Laws → (n m : ℕ) (i : ℕ) (v : Variable) (nodes : List PlainNode) → members_places n m nodes ≡ []
    → i < length nodes → list_any (same_variable v) (object_at (map object_of nodes) i).vars ≡ true →
    NodesChanged i v nodes (members_back (variables_changed_at i (put v) (map object_of nodes)) nodes)
members_changed law n m i v [] none lt any = absurd (omega (arith, lt))
members_changed law n m zero v (node ∷ nodes) none lt any =
    let parts = none_parts (member_places n m node) (members_places n (m + 1) nodes) none in
    let c = member_changed law n m v node parts.0 any in
    record {
      node = node;
      at = refl;
      object = refl;
      entry = c.0;
      is = rw (c.1, members_same law n (m + 1) nodes parts.1) refl;
    }
members_changed law n m (suc i) v (node ∷ nodes) none lt any =
    let parts = none_parts (member_places n m node) (members_places n (m + 1) nodes) none in
    let c = members_changed law n (m + 1) i v nodes parts.1 (omega (arith, lt)) any in
    record {
      node = c.node;
      at = c.at;
      object = c.object;
      entry = c.entry;
      is = rw (member_same law n m node parts.0, c.is) refl;
    }

-- ---- a list

record ListChanged (label : List ℕ) (i : ℕ) (v : Variable) (leaf : Option PlainLeaf) (before after : List PlainField) : Type 0 where
  node : PlainNode
  at : slice_get (structs_in leaf) i ≡ Some node
  object : object_at (map object_of (structs_in leaf)) i ≡ object_of node
  entry : EntryFor v (variable_table node)
  is : after ≡ changed_list label i (changed_in (codes "VarTable") entry.place (with_new_value v)) leaf before

list_changed : Laws → (n : ℕ) (label : List ℕ) (i : ℕ) (v : Variable) (leaf : Option PlainLeaf) (fields : List PlainField) → list_places n leaf ≡ [] → i < length (structs_in leaf) →
    list_any (same_variable v) (object_at (map object_of (structs_in leaf)) i).vars ≡ true →
    ListChanged label i v leaf fields (list_back label (variables_changed_at i (put v) (map object_of (structs_in leaf))) leaf fields)
list_changed law n label i v None fields none lt any = absurd (omega (arith, lt))
list_changed law n label i v (Some (Holds scalar)) fields none lt any = absurd cc
list_changed law n label i v (Some (Child node)) fields none lt any = absurd cc
list_changed law n label i v (Some (Children nodes)) fields none lt any =
    let c = members_changed law n 1 i v (nodes_in nodes) none lt any in
    record {
      node = c.node;
      at = c.at;
      object = c.object;
      entry = c.entry;
      is = ap (λ (ns : List PlainNode). replaced label (list_from ns) fields) c.is;
    }

-- ---- lists

taken_changed : (i : ℕ) (change : List Variable → List Variable) (nodes : List PlainNode) (rest : List AreaObject) → i < length nodes →
    (take (length nodes) (variables_changed_at i change (map object_of nodes ++ rest))
    ≡ variables_changed_at i change (map object_of nodes))
    × (drop (length nodes) (variables_changed_at i change (map object_of nodes ++ rest)) ≡ rest)
taken_changed i change [] rest lt = absurd (omega (arith, lt))
taken_changed zero change (node ∷ nodes) rest lt = (rw (taken nodes rest) refl, dropped nodes rest)
taken_changed (suc i) change (node ∷ nodes) rest lt =
    let more = taken_changed i change nodes rest (omega (arith, lt)) in
    (ap (λ (os : List AreaObject). object_of node ∷ os) more.0, more.1)

-- a place behind as many objects as these
abbrev pub behind : List PlainNode → ℕ → ℕ
behind [] i = i
behind (node ∷ nodes) i = suc (behind nodes i)

behind_is : (nodes : List PlainNode) (i : ℕ) → behind nodes i ≡ length nodes + i
behind_is [] i = omega arith
behind_is (node ∷ nodes) i = omega (arith, behind_is nodes i)

behind_changed : (i : ℕ) (change : List Variable → List Variable) (nodes : List PlainNode) (rest : List AreaObject) →
    variables_changed_at (behind nodes i) change (map object_of nodes ++ rest) ≡ map object_of nodes ++ variables_changed_at i change rest
behind_changed i change [] rest = refl
behind_changed i change (node ∷ nodes) rest = ap (λ (os : List AreaObject). object_of node ∷ os) (behind_changed i change nodes rest)

object_first : (i : ℕ) (nodes : List PlainNode) (rest : List AreaObject) → i < length nodes → object_at (map object_of nodes ++ rest) i ≡ object_at (map object_of nodes) i
object_first i [] rest lt = absurd (omega (arith, lt))
object_first zero (node ∷ nodes) rest lt = refl
object_first (suc i) (node ∷ nodes) rest lt = object_first i nodes rest (omega (arith, lt))

object_behind : (i : ℕ) (nodes : List PlainNode) (rest : List AreaObject) → object_at (map object_of nodes ++ rest) (behind nodes i) ≡ object_at rest i
object_behind i [] rest = refl
object_behind i (node ∷ nodes) rest = object_behind i nodes rest

long_both : (nodes : List PlainNode) (rest : List AreaObject) → length (map object_of nodes ++ rest) ≡ length nodes + length rest
long_both [] rest = omega arith
long_both (node ∷ nodes) rest = omega (arith, long_both nodes rest)

-- where an object of the lists of these labels stands, and what becomes of the fields
pub record FieldsChanged (i : ℕ) (v : Variable) (objects : List AreaObject) (before after : List PlainField) : Type 0 where
  pub label : List ℕ
  pub place : ℕ
  pub node : PlainNode
  pub at : slice_get (structs_in (found label before)) place ≡ Some node
  pub object : object_at objects i ≡ object_of node
  pub entry : EntryFor v (variable_table node)
  pub is : after ≡ changed_list label place (changed_in (codes "VarTable") entry.place (with_new_value v)) (found label before) before

abbrev pub ListsChanged : ℕ → Variable → List (List ℕ) → List PlainField → Type 0
ListsChanged i v labels fields = FieldsChanged i v (objects_under labels fields) fields (lists_back labels (variables_changed_at i (put v) (objects_under labels fields)) fields)

first_changed : Laws → (n : ℕ) (label : List ℕ) (labels : List (List ℕ)) (i : ℕ) (v : Variable)
    (fields : List PlainField) → AllOther label labels → list_places n (found label fields) ≡ []
    → lists_places (n + 1) labels fields ≡ [] →
    i < length (structs_in (found label fields)) → list_any (same_variable v) (object_at (objects_under (label ∷ labels) fields) i).vars ≡ true → ListsChanged i v (label ∷ labels) fields
first_changed law n label labels i v fields apart none later lt any =
    let leaf = found label fields in
    let nodes = structs_in leaf in
    let rest = objects_under labels fields in
    let taken_here = taken_changed i (put v) nodes rest lt in
    let object = object_first i nodes rest lt in
    let c = list_changed law n label i v leaf fields none lt (sym (ap (λ (o : AreaObject). list_any (same_variable v) o.vars) object) ∙ any) in
    let objects = variables_changed_at i (put v) (map object_of nodes) in
    let new = list_back label objects leaf fields in
    let same : lists_back labels rest new ≡ new =
    sym (ap (λ (os : List AreaObject). lists_back labels os new) (under_same label labels objects leaf fields apart))
    ∙ lists_same law (n + 1) labels new (places_same (n + 1) label labels objects leaf fields apart ∙ later) in
    record {
      label = label;
      place = i;
      node = c.node;
      at = c.at;
      object = object ∙ c.object;
      entry = c.entry;
      is = rw (taken_here.0, taken_here.1, same) c.is;
    }

later_changed : Laws → (n : ℕ) (label : List ℕ) (labels : List (List ℕ)) (i k : ℕ) (v : Variable)
    (fields : List PlainField) → list_places n (found label fields) ≡ []
    → i ≡ behind (structs_in (found label fields)) k →
    ListsChanged k v labels fields → ListsChanged i v (label ∷ labels) fields
later_changed law n label labels i k v fields none is more =
    let nodes = structs_in (found label fields) in
    let rest = objects_under labels fields in
    record {
      label = more.label;
      place = more.place;
      node = more.node;
      at = more.at;
      object = ap (object_at (map object_of nodes ++ rest)) is ∙ (object_behind k nodes rest ∙ more.object);
      entry = more.entry;
      is = rw (
        is,
        behind_changed k (put v) nodes rest,
        taken nodes (variables_changed_at k (put v) rest),
        dropped nodes
            (variables_changed_at k (put v) rest),
        list_same law n label (found label fields) fields refl none,
      ) more.is;
    }

either_changed : Laws → (n : ℕ) (label : List ℕ) (labels : List (List ℕ)) (i : ℕ) (v : Variable)
    (fields : List PlainField) → AllOther label labels → list_places n (found label fields) ≡ []
    → lists_places (n + 1) labels fields ≡ [] →
    i < length (objects_under (label ∷ labels) fields) → list_any (same_variable v) (object_at (objects_under (label ∷ labels) fields) i).vars ≡ true →
    ((k : ℕ) → k < length (objects_under labels fields) → list_any (same_variable v) (object_at (objects_under labels fields) k).vars ≡ true → ListsChanged k v labels fields) →
    (i < length (structs_in (found label fields))) ⊎ (length (structs_in (found label fields)) ≤ i) → ListsChanged i v (label ∷ labels) fields
either_changed law n label labels i v fields apart none later lt any more (inl first) = first_changed law n label labels i v fields apart none later first any
either_changed law n label labels i v fields apart none later lt any more (inr no_less) =
    let nodes = structs_in (found label fields) in
    let rest = objects_under labels fields in
    let k = i - length nodes in
    let is : i ≡ behind nodes k = omega (arith, no_less, behind_is nodes k) in
    let there : list_any (same_variable v) (object_at rest k).vars ≡ true =
    sym (ap (λ (o : AreaObject). list_any (same_variable v) o.vars) (ap (object_at (map object_of nodes ++ rest)) is ∙ object_behind k nodes rest)) ∙ any in
    later_changed law n label labels i k v fields none is (more k (omega (arith, no_less, lt, long_both nodes rest)) there)

lists_changed : Laws → (n : ℕ) (labels : List (List ℕ)) (v : Variable) (fields : List PlainField)
    → IsDistinct bytes_eq labels → lists_places n labels fields ≡ [] → (i : ℕ)
    → i < length (objects_under labels fields) →
    list_any (same_variable v) (object_at (objects_under labels fields) i).vars ≡ true → ListsChanged i v labels fields
unfolding IsDistinct
lists_changed law n [] v fields apart none i lt any = absurd (omega (arith, lt))
lists_changed law n (label ∷ labels) v fields apart none i lt any =
    let parts = none_parts (list_places n (found label fields)) (lists_places (n + 1) labels fields) none in
    either_changed law n label labels i v fields apart.0 parts.0 parts.1 lt any (lists_changed law (n + 1) labels v fields apart.1 parts.1) (cases_lt i (length (structs_in (found label fields))))

pub put_changes_one_value : Laws → PutChangesOneValue
put_changes_one_value law tree i v none lt any =
    let c = lists_changed law 0 list_labels v (fields_of tree.top) labels_distinct none i lt any in
    record {
      member = record { label = c.label; place = c.place; member = c.node; at = c.at; is = sym c.object };
      entry = c.entry;
      is = ap (λ (fs : List PlainField). record tree { top = node_from (kind_of tree.top) fs }) c.is;
    }
