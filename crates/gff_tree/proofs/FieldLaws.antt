-- Structs by the lists of their fields: what is found, replaced and appended, and that it stays
-- sound.
use Rattle.std.proofs.Common.{◌≡◌, ℕ, Bool, true, false, cond, not, ◌&&◌, ◌||◌, List, [], ◌∷◌, ◌++◌, Option, None, Some, refl, sym, ap, ◌∙◌}
use Rattle.std.specs.List.{list_any}
use Rattle.std.specs.Str.{bytes_eq}
use Rattle.std.proofs.lemmas.List.Folds.{list_any-append}
use Rattle.gff_tree.specs.Tree.{PlainNode, PlainFields, PlainLeaf, PlainNodes, PlainField, Struct, NoField, MoreFields, Holds, Child, Children, NoNode, MoreNodes, fields_in, fields_from}
use Rattle.gff_tree.specs.Tree.{nodes_in, nodes_from, differ_after, are_distinct, labels_of, is_sound_node, are_sound_fields, is_sound_leaf}
use Rattle.gff_tree.specs.Fields.{found, replaced, appended, ReplacedIsSound, AppendedIsSound, FoundIsSound, ListIsSound, NodeIsItsFields, FieldsAreTheNodes, ListIsItsNodes, NodesAreTheLists}

-- there and back
in_from_fields : (fields : PlainFields) → fields_from (fields_in fields) ≡ fields
in_from_fields NoField = refl
in_from_fields (MoreFields label holds rest) = ap (MoreFields label holds) (in_from_fields rest)

pub from_in_fields : (fields : List PlainField) → fields_in (fields_from fields) ≡ fields
from_in_fields [] = refl
from_in_fields (field ∷ fields) = ap (λ (rest : List PlainField). field ∷ rest) (from_in_fields fields)

in_from_nodes : (nodes : PlainNodes) → nodes_from (nodes_in nodes) ≡ nodes
in_from_nodes NoNode = refl
in_from_nodes (MoreNodes node rest) = ap (MoreNodes node) (in_from_nodes rest)

pub from_in_nodes : (nodes : List PlainNode) → nodes_in (nodes_from nodes) ≡ nodes
from_in_nodes [] = refl
from_in_nodes (node ∷ nodes) = ap (λ (rest : List PlainNode). node ∷ rest) (from_in_nodes nodes)

pub node_is_its_fields : NodeIsItsFields
node_is_its_fields (Struct kind fields) = ap (Struct kind) (in_from_fields fields)

pub fields_are_the_nodes : FieldsAreTheNodes
fields_are_the_nodes kind fields = from_in_fields fields

some_is : {X : Type 0} (x y : X) → Some x ≡ Some y → x ≡ y
some_is x y e = cc

pub list_is_its_nodes : ListIsItsNodes
list_is_its_nodes (Holds scalar) nodes e = absurd cc
list_is_its_nodes (Child node) nodes e = absurd cc
list_is_its_nodes (Children of_list) nodes e =
    ap Children (ap nodes_from (sym (some_is (nodes_in of_list) nodes e)) ∙ in_from_nodes of_list)

pub nodes_are_the_lists : NodesAreTheLists
nodes_are_the_lists nodes = ap Some (from_in_nodes nodes)

both : (a b : Bool) → (a && b) ≡ true → (a ≡ true) × (b ≡ true)
both true b e = (refl, e)
both false b e = absurd cc

and_true : (a b : Bool) → a ≡ true → b ≡ true → (a && b) ≡ true
and_true a b p q = rw (p, q) refl

-- a field that is replaced keeps its label
label_kept : (b : Bool) (leaf : PlainLeaf) (field : PlainField) (fields rest : List PlainField) → labels_of (fields_from rest) ≡ labels_of (fields_from fields) →
    labels_of (fields_from (cond b (record field { leaf = leaf } ∷ fields) (field ∷ rest))) ≡ field.label ∷ labels_of (fields_from fields)
label_kept true leaf field fields rest h = refl
label_kept false leaf field fields rest h = ap (λ (ls : List (List ℕ)). field.label ∷ ls) h

pub replaced_labels : (label : List ℕ) (leaf : PlainLeaf) (fields : List PlainField) → labels_of (fields_from (replaced label leaf fields)) ≡ labels_of (fields_from fields)
replaced_labels label leaf [] = refl
replaced_labels label leaf (field ∷ fields) =
    label_kept (bytes_eq label field.label) leaf field fields (replaced label leaf fields) (replaced_labels label leaf fields)

one_sound : (depth : ℕ) (b : Bool) (leaf : PlainLeaf) (field : PlainField) (fields rest : List PlainField)
    → is_sound_leaf depth field.leaf ≡ true → are_sound_fields depth (fields_from fields) ≡ true →
    is_sound_leaf depth leaf ≡ true → are_sound_fields depth (fields_from rest) ≡ true → are_sound_fields depth (fields_from (cond b (record field { leaf = leaf } ∷ fields) (field ∷ rest))) ≡ true
one_sound depth true leaf field fields rest here others new done = and_true _ _ new others
one_sound depth false leaf field fields rest here others new done = and_true _ _ here done

fields_replaced : (depth : ℕ) (label : List ℕ) (leaf : PlainLeaf) (fields : List PlainField) → are_sound_fields depth (fields_from fields) ≡ true → is_sound_leaf depth leaf ≡ true →
    are_sound_fields depth (fields_from (replaced label leaf fields)) ≡ true
fields_replaced depth label leaf [] sound new = refl
fields_replaced depth label leaf (field ∷ fields) sound new =
    let parts = both (is_sound_leaf depth field.leaf) (are_sound_fields depth (fields_from fields)) sound in
    one_sound depth (bytes_eq label field.label) leaf field fields (replaced label leaf fields) parts.0 parts.1 new (fields_replaced depth label leaf fields parts.1 new)

pub replaced_is_sound : ReplacedIsSound
replaced_is_sound depth kind label leaf fields sound new =
    let parts = both (are_distinct bytes_eq (labels_of (fields_from fields))) (are_sound_fields depth (fields_from fields)) sound in
    and_true _ _ (ap (are_distinct bytes_eq) (replaced_labels label leaf fields) ∙ parts.0) (fields_replaced depth label leaf fields parts.1 new)

-- a label that no field has is none of their labels
not_here : (b : Bool) (leaf : PlainLeaf) (rest : Option PlainLeaf) → cond b (Some leaf) rest ≡ None → (b ≡ false) × (rest ≡ None)
not_here true leaf rest e = absurd cc
not_here false leaf rest e = (refl, e)

pub new_label : (label : List ℕ) (fields : List PlainField) → found label fields ≡ None → list_any (bytes_eq label) (labels_of (fields_from fields)) ≡ false
new_label label [] e = refl
new_label label (field ∷ fields) e =
    let parts = not_here (bytes_eq label field.label) field.leaf (found label fields) e in
    rw parts.0 (new_label label fields parts.1)

more_differ : (first labels : List (List ℕ)) (label : List ℕ) → differ_after bytes_eq first labels ≡ true → list_any (bytes_eq label) first ≡ false → list_any (bytes_eq label) labels ≡ false →
    differ_after bytes_eq first (labels ++ label ∷ []) ≡ true
more_differ first [] label d p q = rw p refl
more_differ first (x ∷ xs) label d p q =
    let parts = both (not (list_any (bytes_eq x) first)) (differ_after bytes_eq (first ++ x ∷ []) xs) d in
    let none = apart (bytes_eq label x) (list_any (bytes_eq label) xs) q in
    let before : list_any (bytes_eq label) (first ++ x ∷ []) ≡ false = list_any-append (bytes_eq label) first (x ∷ []) ∙ rw (p, none.0) refl in
    and_true _ _ parts.0 (more_differ (first ++ x ∷ []) xs label parts.1 before none.1)
  where
    apart : (a b : Bool) → (a || b) ≡ false → (a ≡ false) × (b ≡ false)
    apart true b e = absurd cc
    apart false b e = (refl, e)

appended_labels : (label : List ℕ) (leaf : PlainLeaf) (fields : List PlainField) → labels_of (fields_from (appended label leaf fields)) ≡ labels_of (fields_from fields) ++ label ∷ []
appended_labels label leaf [] = refl
appended_labels label leaf (field ∷ fields) = ap (λ (ls : List (List ℕ)). field.label ∷ ls) (appended_labels label leaf fields)

fields_appended : (depth : ℕ) (label : List ℕ) (leaf : PlainLeaf) (fields : List PlainField) → are_sound_fields depth (fields_from fields) ≡ true → is_sound_leaf depth leaf ≡ true →
    are_sound_fields depth (fields_from (appended label leaf fields)) ≡ true
fields_appended depth label leaf [] sound new = and_true _ _ new refl
fields_appended depth label leaf (field ∷ fields) sound new =
    let parts = both (is_sound_leaf depth field.leaf) (are_sound_fields depth (fields_from fields)) sound in
    and_true _ _ parts.0 (fields_appended depth label leaf fields parts.1 new)

pub appended_is_sound : AppendedIsSound
appended_is_sound depth kind label leaf fields sound new none =
    let parts = both (are_distinct bytes_eq (labels_of (fields_from fields))) (are_sound_fields depth (fields_from fields)) sound in
    let differ = more_differ [] (labels_of (fields_from fields)) label parts.0 refl (new_label label fields none) in
    and_true _ _ (ap (are_distinct bytes_eq) (appended_labels label leaf fields) ∙ differ) (fields_appended depth label leaf fields parts.1 new)

here_or_later : (depth : ℕ) (b : Bool) (first leaf : PlainLeaf) (rest : Option PlainLeaf)
    → cond b (Some first) rest ≡ Some leaf → is_sound_leaf depth first ≡ true
    → (rest ≡ Some leaf → is_sound_leaf depth leaf ≡ true) →
    is_sound_leaf depth leaf ≡ true
here_or_later depth true first leaf rest e sound later = ap (is_sound_leaf depth) (sym (some_is first leaf e)) ∙ sound
here_or_later depth false first leaf rest e sound later = later e

found_among : (depth : ℕ) (label : List ℕ) (leaf : PlainLeaf) (fields : List PlainField)
    → are_sound_fields depth (fields_from fields) ≡ true → found label fields ≡ Some leaf
    → is_sound_leaf depth leaf ≡ true
found_among depth label leaf [] sound e = absurd cc
found_among depth label leaf (field ∷ fields) sound e =
    let parts = both (is_sound_leaf depth field.leaf) (are_sound_fields depth (fields_from fields)) sound in
    here_or_later depth (bytes_eq label field.label) field.leaf leaf (found label fields) e parts.0 (found_among depth label leaf fields parts.1)

pub found_is_sound : FoundIsSound
found_is_sound depth kind label leaf fields sound e =
    found_among depth label leaf fields (both (are_distinct bytes_eq (labels_of (fields_from fields))) (are_sound_fields depth (fields_from fields)) sound).1 e

pub list_is_sound : ListIsSound
list_is_sound depth [] = refl
list_is_sound depth (node ∷ nodes) = ap (λ (rest : Bool). is_sound_node depth node && rest) (list_is_sound depth nodes)
