-- The area that nobody changed goes back as the tree it was read from.
use Rattle.std.proofs.Common.{◌≡◌, ◌+◌, ◌==◌, ℕ, ℤ, Bool, true, false, cond, not, ◌||◌, List, [], ◌∷◌, ◌++◌, map, filter, length, take, drop, Option, None, Some, refl, sym, ap, ◌∙◌}
use Rattle.std.specs.Prelude.{codes}
use Rattle.std.specs.List.{list_any, IsDistinct, AllByRecursion}
use Rattle.std.specs.Str.{bytes_eq}
use Rattle.std.proofs.lemmas.List.{append-nil}
use Rattle.gff_tree.specs.Tree.{PlainNode, PlainLeaf, PlainField, Byte, Char, Word, Short, Dword, Int, Dword64, Int64, Float, Double, Str, Res, Localized, Void, Holds, Child, Children, nodes_in}
use Rattle.gff_tree.specs.Fields.{kind_of, fields_of, node_from, list_from, found, replaced}
use Rattle.local_variables.specs.Variables.{Variable, IntVar, TextVar, same_variable, matching}
use Rattle.area_rules.specs.Objects.{AreaObject, Entry, Broken, Unread, Tells, dword_in, int_in, string_in, int_entry, text_entry, typed_entry, entry_of, with_entry, variables_in, structs_in}
use Rattle.area_rules.specs.Objects.{object_of, list_labels, objects_under}
use Rattle.area_rules.specs.Broken.{tag_places, table_places, member_places, members_places, list_places, lists_places}
use Rattle.area_back.specs.Back.{value_of, stays, is_kept, variable_for, with_value, valued, entries_back, table_back, leaf_back, fields_back, member_back, members_back, objects_back, list_back}
use Rattle.area_back.specs.Back.{lists_back}
use Rattle.area_rules.specs.Laws.{TablesAreDistinct}
use Rattle.local_variables.specs.Laws.{PutIsFound, SameIsEquivalence, FilterKeepsDistinct}
use Rattle.area_back.specs.Laws.{UnchangedGoesBack}
use Rattle.area_back.proofs.SoundLemmas.{TreeLaws}

-- what the crates below say of structs and lists, of variables, and of tables that break no rule
pub record Laws : Type 0 where
  pub tree : TreeLaws
  pub same : SameIsEquivalence
  pub found : PutIsFound
  pub filter : FilterKeepsDistinct
  pub tables : TablesAreDistinct

pub none_parts : {X : Type 0} (xs ys : List X) → xs ++ ys ≡ [] → (xs ≡ []) × (ys ≡ [])
none_parts [] ys e = (refl, e)
none_parts (x ∷ xs) ys e = absurd cc

-- ---- what is found under a label, and put there again

replaced_same_at : (b : Bool) (label : List ℕ) (leaf : PlainLeaf) (field : PlainField) (fields : List PlainField) → cond b (Some field.leaf) (found label fields) ≡ Some leaf →
    (found label fields ≡ Some leaf → replaced label leaf fields ≡ fields) → cond b (record field { leaf = leaf } ∷ fields) (field ∷ replaced label leaf fields) ≡ field ∷ fields
replaced_same_at true label leaf field fields is more =
    let same : field.leaf ≡ leaf = some_is field.leaf leaf is in
    ap (λ (l : PlainLeaf). record field { leaf = l } ∷ fields) (sym same)
  where
    some_is : (x y : PlainLeaf) → Some x ≡ Some y → x ≡ y
    some_is x y e = cc
replaced_same_at false label leaf field fields is more = ap (λ (fs : List PlainField). field ∷ fs) (more is)

pub replaced_same : (label : List ℕ) (leaf : PlainLeaf) (fields : List PlainField) → found label fields ≡ Some leaf → replaced label leaf fields ≡ fields
replaced_same label leaf [] is = absurd cc
replaced_same label leaf (field ∷ fields) is = replaced_same_at (bytes_eq label field.label) label leaf field fields is (replaced_same label leaf fields)

-- ---- what an entry tells stands in its field Value

int_value : (value : Option PlainLeaf) (n : ℤ) → int_in value ≡ Some n → value ≡ Some (Holds (Int n))
int_value None n e = absurd cc
int_value (Some (Child node)) n e = absurd cc
int_value (Some (Children nodes)) n e = absurd cc
int_value (Some (Holds (Byte m))) n e = absurd cc
int_value (Some (Holds (Char m))) n e = absurd cc
int_value (Some (Holds (Word m))) n e = absurd cc
int_value (Some (Holds (Short m))) n e = absurd cc
int_value (Some (Holds (Dword m))) n e = absurd cc
int_value (Some (Holds (Int m))) n e = cc
int_value (Some (Holds (Dword64 m))) n e = absurd cc
int_value (Some (Holds (Int64 m))) n e = absurd cc
int_value (Some (Holds (Float bits))) n e = absurd cc
int_value (Some (Holds (Double bits))) n e = absurd cc
int_value (Some (Holds (Str text))) n e = absurd cc
int_value (Some (Holds (Res text))) n e = absurd cc
int_value (Some (Holds (Localized loc))) n e = absurd cc
int_value (Some (Holds (Void bytes))) n e = absurd cc

text_value : (value : Option PlainLeaf) (t : List ℕ) → string_in value ≡ Some t → value ≡ Some (Holds (Str t))
text_value None t e = absurd cc
text_value (Some (Child node)) t e = absurd cc
text_value (Some (Children nodes)) t e = absurd cc
text_value (Some (Holds (Byte m))) t e = absurd cc
text_value (Some (Holds (Char m))) t e = absurd cc
text_value (Some (Holds (Word m))) t e = absurd cc
text_value (Some (Holds (Short m))) t e = absurd cc
text_value (Some (Holds (Dword m))) t e = absurd cc
text_value (Some (Holds (Int m))) t e = absurd cc
text_value (Some (Holds (Dword64 m))) t e = absurd cc
text_value (Some (Holds (Int64 m))) t e = absurd cc
text_value (Some (Holds (Float bits))) t e = absurd cc
text_value (Some (Holds (Double bits))) t e = absurd cc
text_value (Some (Holds (Str text))) t e = cc
text_value (Some (Holds (Res text))) t e = absurd cc
text_value (Some (Holds (Localized loc))) t e = absurd cc
text_value (Some (Holds (Void bytes))) t e = absurd cc

int_tells : (name : Option (List ℕ)) (n : Option ℤ) (value : Option PlainLeaf) (v : Variable) → int_in value ≡ n → int_entry name n ≡ Tells v → value ≡ Some (value_of v)
int_tells None n value v is e = absurd cc
int_tells (Some name) None value v is e = absurd cc
int_tells (Some name) (Some n) value v is e = let told : IntVar name n ≡ v = cc in int_value value n is ∙ ap (λ (w : Variable). Some (value_of w)) told

text_tells : (name t : Option (List ℕ)) (value : Option PlainLeaf) (v : Variable) → string_in value ≡ t → text_entry name t ≡ Tells v → value ≡ Some (value_of v)
text_tells None t value v is e = absurd cc
text_tells (Some name) None value v is e = absurd cc
text_tells (Some name) (Some t) value v is e = let told : TextVar name t ≡ v = cc in text_value value t is ∙ ap (λ (w : Variable). Some (value_of w)) told

tells_by_type : (b d : Bool) (name value : Option PlainLeaf) (v : Variable)
    → cond b (int_entry (string_in name) (int_in value)) (cond d (text_entry (string_in name) (string_in value)) Unread)
    ≡ Tells v → value ≡ Some (value_of v)
tells_by_type true d name value v e = int_tells (string_in name) (int_in value) value v refl e
tells_by_type false true name value v e = text_tells (string_in name) (string_in value) value v refl e
tells_by_type false false name value v e = absurd cc

tells_value : (type : Option ℕ) (name value : Option PlainLeaf) (v : Variable) → typed_entry type name value ≡ Tells v → value ≡ Some (value_of v)
tells_value None name value v e = absurd cc
tells_value (Some t) name value v e = tells_by_type (t == 1) (t == 3) name value v e

pub entry_value : (entry : PlainNode) (v : Variable) → entry_of entry ≡ Tells v → found (codes "Value") (fields_of entry) ≡ Some (value_of v)
entry_value entry v e = tells_value (dword_in (found (codes "Type") (fields_of entry))) (found (codes "Name") (fields_of entry)) (found (codes "Value") (fields_of entry)) v e

-- ---- each of a list of distinct variables is the one of its type and name

abbrev pub AllFound : List Variable → List Variable → Type 0
AllFound vars some = AllByRecursion (λ v. matching v vars ≡ Some v) some

found_behind : Laws → (w : Variable) (vars some : List Variable) → AllByRecursion (λ y. same_variable w y ≡ false) some → AllFound vars some → AllFound (w ∷ vars) some
found_behind law w vars [] apart all = tt
found_behind law w vars (v ∷ some) apart all = (rw (law.same.symm v w ∙ apart.0) all.0, found_behind law w vars some apart.1 all.1)

pub all_found : Laws → (vars : List Variable) → IsDistinct same_variable vars → AllFound vars vars
unfolding IsDistinct
all_found law [] d = tt
all_found law (v ∷ vars) d = (rw (law.same.refl v) refl, found_behind law v vars vars d.0 (all_found law vars d.1))

pub found_any : (v w : Variable) (vars : List Variable) → matching v vars ≡ Some w → list_any (same_variable v) vars ≡ true
found_any v w [] e = absurd cc
found_any v w (x ∷ vars) e = by_test (same_variable v x) e (found_any v w vars)
  where
    by_test : (b : Bool) → cond b (Some x) (matching v vars) ≡ Some w → (matching v vars ≡ Some w → list_any (same_variable v) vars ≡ true) → (b || list_any (same_variable v) vars) ≡ true
    by_test true h more = refl
    by_test false h more = more h

-- ---- a table

-- an entry on the way back, by what it tells
abbrev pub one_back : List Variable → Entry → PlainNode → List PlainNode → List PlainNode
one_back vars e entry rest = cond (stays vars e) (with_value (variable_for vars e) entry ∷ rest) rest

pub entries_one : (vars : List Variable) (entry : PlainNode) (entries : List PlainNode) → entries_back vars (entry ∷ entries) ≡ one_back vars (entry_of entry) entry (entries_back vars entries)
entries_one vars entry entries = by_test (is_kept vars entry)
  where
    by_test : (b : Bool) → map (valued vars)
        (cond b (entry ∷ filter (is_kept vars) entries) (filter (is_kept vars) entries))
        ≡ cond b (valued vars entry ∷ entries_back vars entries) (entries_back vars entries)
    by_test true = refl
    by_test false = refl

pub one_same : Laws → (vars : List Variable) (entry : PlainNode) (rest : List PlainNode) (e : Entry)
    (more : List Variable) → entry_of entry ≡ e → AllFound vars (with_entry e more)
    → one_back vars e entry rest ≡ entry ∷ rest
one_same law vars entry rest Broken more is all = refl
one_same law vars entry rest Unread more is all = refl
one_same law vars entry rest (Tells v) more is all =
    let same : node_from (kind_of entry) (replaced (codes "Value") (value_of v) (fields_of entry)) ≡ entry =
    ap (node_from (kind_of entry)) (replaced_same (codes "Value") (value_of v) (fields_of entry) (entry_value entry v is)) ∙ law.tree.node entry in
    rw (found_any v v vars all.0, all.0) (ap (λ (n : PlainNode). n ∷ rest) same)

pub later_all : (vars more : List Variable) (e : Entry) → AllFound vars (with_entry e more) → AllFound vars more
later_all vars more Broken all = all
later_all vars more Unread all = all
later_all vars more (Tells v) all = all.1

pub entries_same : Laws → (vars : List Variable) (entries : List PlainNode) → AllFound vars (variables_in entries) → entries_back vars entries ≡ entries
entries_same law vars [] all = refl
entries_same law vars (entry ∷ entries) all =
    entries_one vars entry entries
    ∙ (one_same law vars entry (entries_back vars entries) (entry_of entry) (variables_in entries) refl all
    ∙ ap (λ (ns : List PlainNode). entry ∷ ns) (entries_same law vars entries (later_all vars (variables_in entries) (entry_of entry) all)))

none_other : (vars some : List Variable) → AllFound vars some → filter (λ v. not (list_any (same_variable v) vars)) some ≡ []
none_other vars [] all = refl
none_other vars (v ∷ some) all = rw (found_any v v vars all.0) (none_other vars some all.1)

table_same : Laws → (entries : List PlainNode) → IsDistinct same_variable (variables_in entries) → table_back (variables_in entries) entries ≡ entries
table_same law entries d =
    let all = all_found law (variables_in entries) d in
    rw (entries_same law (variables_in entries) entries all, none_other (variables_in entries) (variables_in entries) all) (append-nil entries)

-- ---- members

pub some_back : (vars : List Variable) (table : PlainLeaf) (fields : List PlainField) → fields_back vars (Some table) fields ≡ replaced (codes "VarTable") (leaf_back vars table) fields
some_back [] table fields = refl
some_back (v ∷ vars) table fields = refl

fields_same : Laws → (n m : ℕ) (table : Option PlainLeaf) (fields : List PlainField) → found (codes "VarTable") fields ≡ table → table_places n m table ≡ [] →
    fields_back (variables_in (structs_in table)) table fields ≡ fields
fields_same law n m None fields is none = refl
fields_same law n m (Some (Holds scalar)) fields is none = absurd cc
fields_same law n m (Some (Child node)) fields is none = absurd cc
fields_same law n m (Some (Children entries)) fields is none =
    let same : leaf_back (variables_in (nodes_in entries)) (Children entries) ≡ Children entries =
    ap list_from (table_same law (nodes_in entries) (law.tables n m (Some (Children entries)) none)) ∙ law.tree.list (Children entries) (nodes_in entries) refl in
    some_back (variables_in (nodes_in entries)) (Children entries) fields ∙ (rw same (replaced_same (codes "VarTable") (Children entries) fields is))

pub member_same : Laws → (n m : ℕ) (node : PlainNode) → member_places n m node ≡ [] → member_back (object_of node).vars node ≡ node
member_same law n m node none =
    let table = found (codes "VarTable") (fields_of node) in
    ap (node_from (kind_of node)) (fields_same law n m table (fields_of node) refl (none_parts (tag_places n m (found (codes "Tag") (fields_of node))) (table_places n m table) none).1)
    ∙ law.tree.node node

pub members_same : Laws → (n m : ℕ) (nodes : List PlainNode) → members_places n m nodes ≡ [] → members_back (map object_of nodes) nodes ≡ nodes
members_same law n m [] none = refl
members_same law n m (node ∷ nodes) none =
    let parts = none_parts (member_places n m node) (members_places n (m + 1) nodes) none in
    rw (member_same law n m node parts.0, members_same law n (m + 1) nodes parts.1) refl

-- ---- lists

pub list_same : Laws → (n : ℕ) (label : List ℕ) (leaf : Option PlainLeaf) (fields : List PlainField)
    → found label fields ≡ leaf → list_places n leaf ≡ []
    → list_back label (map object_of (structs_in leaf)) leaf fields ≡ fields
list_same law n label None fields is none = refl
list_same law n label (Some (Holds scalar)) fields is none = absurd cc
list_same law n label (Some (Child node)) fields is none = absurd cc
list_same law n label (Some (Children nodes)) fields is none =
    let same : objects_back (map object_of (nodes_in nodes)) (Children nodes) ≡ Children nodes =
    ap list_from (members_same law n 1 (nodes_in nodes) none) ∙ law.tree.list (Children nodes) (nodes_in nodes) refl in
    rw same (replaced_same label (Children nodes) fields is)

pub taken : (nodes : List PlainNode) (rest : List AreaObject) → take (length nodes) (map object_of nodes ++ rest) ≡ map object_of nodes
taken [] rest = refl
taken (node ∷ nodes) rest = ap (λ (os : List AreaObject). object_of node ∷ os) (taken nodes rest)

pub dropped : (nodes : List PlainNode) (rest : List AreaObject) → drop (length nodes) (map object_of nodes ++ rest) ≡ rest
dropped [] rest = refl
dropped (node ∷ nodes) rest = dropped nodes rest

pub lists_same : Laws → (n : ℕ) (labels : List (List ℕ)) (fields : List PlainField) → lists_places n labels fields ≡ [] → lists_back labels (objects_under labels fields) fields ≡ fields
lists_same law n [] fields none = refl
lists_same law n (label ∷ labels) fields none =
    let parts = none_parts (list_places n (found label fields)) (lists_places (n + 1) labels fields) none in
    let nodes = structs_in (found label fields) in
    rw (
      taken nodes (objects_under labels fields),
      dropped nodes (objects_under labels fields),
      list_same law n label
          (found label fields) fields refl parts.0,
    ) (lists_same law (n + 1) labels fields parts.1)

pub unchanged_goes_back : Laws → UnchangedGoesBack
unchanged_goes_back law tree none =
    ap (λ (top : PlainNode). record tree { top = top }) (ap (node_from (kind_of tree.top)) (lists_same law 0 list_labels (fields_of tree.top) none) ∙ law.tree.node tree.top)
