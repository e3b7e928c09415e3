-- The tree of the way back is sound.
use Rattle.std.proofs.Common.{◌≡◌, ℕ, suc, Bool, true, false, cond, ◌&&◌, List, [], ◌∷◌, ◌++◌, map, filter, length, take, drop, Option, None, Some, refl, sym, ap, ◌∙◌}
use Rattle.std.specs.Prelude.{codes}
use Rattle.std.specs.List.{list_all}
use Rattle.gff_tree.specs.Tree.{PlainNode, PlainLeaf, PlainField, Holds, Child, Children, nodes_in, is_sound_node, is_sound_leaf, is_sound}
use Rattle.gff_tree.specs.Fields.{kind_of, fields_of, node_from, list_from, found, ReplacedIsSound, AppendedIsSound, FoundIsSound, ListIsSound, NodeIsItsFields, FieldsAreTheNodes, ListIsItsNodes}
use Rattle.gff_tree.specs.Fields.{NodesAreTheLists}
use Rattle.local_variables.specs.Variables.{Variable, IntVar, TextVar}
use Rattle.area_rules.specs.Objects.{AreaObject, entry_of, structs_in, list_labels}
use Rattle.area_back.specs.Back.{value_of, new_entry, is_kept, variable_for, with_value, valued, entries_back, others, table_back, leaf_back, fields_back, member_back, members_back, objects_back}
use Rattle.area_back.specs.Back.{list_back, lists_back}

-- what gff_tree's laws say of structs, fields and lists
pub record TreeLaws : Type 0 where
  pub node : NodeIsItsFields
  pub fields : FieldsAreTheNodes
  pub list : ListIsItsNodes
  pub nodes : NodesAreTheLists
  pub replaced_sound : ReplacedIsSound
  pub appended_sound : AppendedIsSound
  pub found_sound : FoundIsSound
  pub list_sound : ListIsSound

both : (a b : Bool) → (a && b) ≡ true → (a ≡ true) × (b ≡ true)
both true b e = (refl, e)
both false b e = absurd cc

and_true : (a b : Bool) → a ≡ true → b ≡ true → (a && b) ≡ true
and_true a b p q = rw (p, q) refl

-- ---- entries

value_sound : (depth : ℕ) (v : Variable) → is_sound_leaf depth (value_of v) ≡ true
value_sound depth (IntVar name n) = refl
value_sound depth (TextVar name text) = refl

new_sound : (depth : ℕ) (v : Variable) → is_sound_node (suc depth) (new_entry v) ≡ true
new_sound depth (IntVar name n) = refl
new_sound depth (TextVar name text) = refl

node_sound_as : TreeLaws → (depth : ℕ) (node : PlainNode) → is_sound_node depth node ≡ true → is_sound_node depth (node_from (kind_of node) (fields_of node)) ≡ true
node_sound_as law depth node sound = ap (is_sound_node depth) (law.node node) ∙ sound

with_value_sound : TreeLaws → (depth : ℕ) (v : Option Variable) (entry : PlainNode) → is_sound_node (suc depth) entry ≡ true → is_sound_node (suc depth) (with_value v entry) ≡ true
with_value_sound law depth None entry sound = sound
with_value_sound law depth (Some v) entry sound =
    law.replaced_sound depth (kind_of entry) (codes "Value") (value_of v) (fields_of entry) (node_sound_as law (suc depth) entry sound) (value_sound depth v)

kept_sound : (test all : PlainNode → Bool) (nodes : List PlainNode) → list_all all nodes ≡ true → list_all all (filter test nodes) ≡ true
kept_sound test all [] sound = refl
kept_sound test all (n ∷ nodes) sound = let parts = both (all n) (list_all all nodes) sound in by_test (test n) parts.0 (kept_sound test all nodes parts.1)
  where
    by_test : (b : Bool) → all n ≡ true → list_all all (filter test nodes) ≡ true → list_all all (cond b (n ∷ filter test nodes) (filter test nodes)) ≡ true
    by_test true here more = and_true _ _ here more
    by_test false here more = more

valued_sound : TreeLaws → (depth : ℕ) (vars : List Variable) (entries : List PlainNode)
    → list_all (is_sound_node (suc depth)) entries ≡ true
    → list_all (is_sound_node (suc depth)) (map (valued vars) entries) ≡ true
valued_sound law depth vars [] sound = refl
valued_sound law depth vars (entry ∷ entries) sound =
    let parts = both (is_sound_node (suc depth) entry) (list_all (is_sound_node (suc depth)) entries) sound in
    and_true _ _ (with_value_sound law depth (variable_for vars (entry_of entry)) entry parts.0) (valued_sound law depth vars entries parts.1)

all_new_sound : (depth : ℕ) (vars : List Variable) → list_all (is_sound_node (suc depth)) (map new_entry vars) ≡ true
all_new_sound depth [] = refl
all_new_sound depth (v ∷ vars) = and_true _ _ (new_sound depth v) (all_new_sound depth vars)

joined_sound : (all : PlainNode → Bool) (first rest : List PlainNode) → list_all all first ≡ true → list_all all rest ≡ true → list_all all (first ++ rest) ≡ true
joined_sound all [] rest p q = q
joined_sound all (n ∷ first) rest p q = let parts = both (all n) (list_all all first) p in and_true _ _ parts.0 (joined_sound all first rest parts.1 q)

table_sound : TreeLaws → (depth : ℕ) (vars : List Variable) (entries : List PlainNode)
    → list_all (is_sound_node (suc depth)) entries ≡ true
    → is_sound_leaf (suc depth) (list_from (table_back vars entries)) ≡ true
table_sound law depth vars entries sound =
    law.list_sound (suc depth) (table_back vars entries)
    ∙ joined_sound (is_sound_node (suc depth)) (entries_back vars entries) (map new_entry (others vars entries))
    (valued_sound law depth vars (filter (is_kept vars) entries) (kept_sound (is_kept vars) (is_sound_node (suc depth)) entries sound)) (all_new_sound depth (others vars entries))

-- ---- members

list_parts : TreeLaws → (depth : ℕ) (leaf : PlainLeaf) (nodes : List PlainNode) → leaf ≡ list_from nodes → is_sound_leaf depth leaf ≡ true → list_all (is_sound_node depth) nodes ≡ true
list_parts law depth leaf nodes is sound = sym (law.list_sound depth nodes) ∙ (ap (is_sound_leaf depth) (sym is) ∙ sound)

leaf_sound : TreeLaws → (depth : ℕ) (vars : List Variable) (leaf : PlainLeaf) → is_sound_leaf (suc depth) leaf ≡ true → is_sound_leaf (suc depth) (leaf_back vars leaf) ≡ true
leaf_sound law depth vars (Holds scalar) sound = sound
leaf_sound law depth vars (Child node) sound = sound
leaf_sound law depth vars (Children entries) sound =
    table_sound law depth vars (nodes_in entries) (list_parts law (suc depth) (Children entries) (nodes_in entries) (sym (law.list (Children entries) (nodes_in entries) refl)) sound)

fields_sound : TreeLaws → (depth kind : ℕ) (vars : List Variable) (table : Option PlainLeaf) (fields : List PlainField)
    → table ≡ found (codes "VarTable") fields → is_sound_node (suc (suc depth)) (node_from kind fields) ≡ true →
    is_sound_node (suc (suc depth)) (node_from kind (fields_back vars table fields)) ≡ true
fields_sound law depth kind [] None fields is sound = sound
fields_sound law depth kind (v ∷ vars) None fields is sound =
    law.appended_sound (suc depth) kind (codes "VarTable") (list_from (table_back (v ∷ vars) [])) fields sound (table_sound law depth (v ∷ vars) [] refl) (sym is)
fields_sound law depth kind [] (Some table) fields is sound =
    law.replaced_sound (suc depth) kind (codes "VarTable") (leaf_back [] table) fields sound
    (leaf_sound law depth [] table
    (law.found_sound (suc depth) kind (codes "VarTable") table fields sound (sym is)))
fields_sound law depth kind (v ∷ vars) (Some table) fields is sound =
    law.replaced_sound (suc depth) kind (codes "VarTable") (leaf_back (v ∷ vars) table) fields sound
    (leaf_sound law depth (v ∷ vars) table
    (law.found_sound (suc depth) kind (codes "VarTable") table fields sound (sym is)))

member_sound : TreeLaws → (depth : ℕ) (vars : List Variable) (node : PlainNode) → is_sound_node (suc (suc depth)) node ≡ true → is_sound_node (suc (suc depth)) (member_back vars node) ≡ true
member_sound law depth vars node sound =
    fields_sound law depth (kind_of node) vars (found (codes "VarTable") (fields_of node)) (fields_of node) refl (node_sound_as law (suc (suc depth)) node sound)

members_sound : TreeLaws → (depth : ℕ) (objects : List AreaObject) (nodes : List PlainNode)
    → list_all (is_sound_node (suc (suc depth))) nodes ≡ true
    → list_all (is_sound_node (suc (suc depth))) (members_back objects nodes) ≡ true
members_sound law depth [] nodes sound = sound
members_sound law depth (o ∷ objects) [] sound = refl
members_sound law depth (o ∷ objects) (node ∷ nodes) sound =
    let parts = both (is_sound_node (suc (suc depth)) node) (list_all (is_sound_node (suc (suc depth))) nodes) sound in
    and_true _ _ (member_sound law depth o.vars node parts.0) (members_sound law depth objects nodes parts.1)

objects_sound : TreeLaws → (depth : ℕ) (objects : List AreaObject) (leaf : PlainLeaf) → is_sound_leaf (suc (suc depth)) leaf ≡ true → is_sound_leaf (suc (suc depth)) (objects_back objects leaf) ≡ true
objects_sound law depth objects (Holds scalar) sound = sound
objects_sound law depth objects (Child node) sound = sound
objects_sound law depth objects (Children nodes) sound =
    let parts = list_parts law (suc (suc depth)) (Children nodes) (nodes_in nodes) (sym (law.list (Children nodes) (nodes_in nodes) refl)) sound in
    law.list_sound (suc (suc depth)) (members_back objects (nodes_in nodes)) ∙ members_sound law depth objects (nodes_in nodes) parts

list_sound : TreeLaws → (depth kind : ℕ) (label : List ℕ) (objects : List AreaObject) (leaf : Option PlainLeaf)
    (fields : List PlainField) → leaf ≡ found label fields
    → is_sound_node (suc (suc (suc depth))) (node_from kind fields) ≡ true →
    is_sound_node (suc (suc (suc depth))) (node_from kind (list_back label objects leaf fields)) ≡ true
list_sound law depth kind label objects None fields is sound = sound
list_sound law depth kind label objects (Some leaf) fields is sound =
    law.replaced_sound (suc (suc depth)) kind label (objects_back objects leaf) fields sound
    (objects_sound law depth objects leaf (law.found_sound (suc (suc depth)) kind label leaf fields sound (sym is)))

lists_sound : TreeLaws → (depth kind : ℕ) (labels : List (List ℕ)) (objects : List AreaObject) (fields : List PlainField) → is_sound_node (suc (suc (suc depth))) (node_from kind fields) ≡ true →
    is_sound_node (suc (suc (suc depth))) (node_from kind (lists_back labels objects fields)) ≡ true
lists_sound law depth kind [] objects fields sound = sound
lists_sound law depth kind (label ∷ labels) objects fields sound =
    let n = length (structs_in (found label fields)) in
    lists_sound law depth kind labels (drop n objects) (list_back label (take n objects) (found label fields) fields)
    (list_sound law depth kind label (take n objects) (found label fields) fields refl sound)

pub back_sound : TreeLaws → (objects : List AreaObject) (top : PlainNode) → is_sound top ≡ true → is_sound (node_from (kind_of top) (lists_back list_labels objects (fields_of top))) ≡ true
unfolding is_sound
back_sound law objects top sound = lists_sound law 61 (kind_of top) list_labels objects (fields_of top) (node_sound_as law 64 top sound)
