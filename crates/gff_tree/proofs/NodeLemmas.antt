-- Nodes and leaves of the program as plain ones.
use Rattle.std.proofs.Common.{◌≡◌, ◌<◌, ◌+◌, ℕ, suc, Bool, true, false, cond, List, [], ◌∷◌, Option, None, Some, Result, Ok, Err, MatchOption, map, length, get_or, set, drop, drop-cons, add-one}
use Rattle.std.proofs.Common.{refl, sym, ap, subst, ◌∙◌, rules, arith}
use Rattle.std.proofs.lemmas.List.{length-map, map-set, get_or-map}
use Rattle.std.specs.Result.{OnOk, OnErr}
use Rattle.std.specs.Option.{option_map}
use Rattle.std.specs.Str.{bytes_eq}
use Rattle.nwq_value.specs.declared.memory.NoMemory.{NoMemory}
use Rattle.std.specs.declared.vec.Vec.{Vec}
use Rattle.std.specs.declared.alloc.Global.{Global}
use Rattle.gff_tree.specs.declared.tree.Field.{Field}
use Rattle.gff_tree.specs.declared.tree.Node.{Node, out-Node, roll-Node, roll-out-Node, Row_of-Field, end_of-Field, more_of-Field, items-the_row-Field}
use Rattle.gff_tree.specs.declared.tree.Leaf.{Leaf, Row_of-Node, end_of-Node, more_of-Node, items-the_row-Node}
use Rattle.gff_tree.specs.declared.tree.Leaf.TheViews as views
use Rattle.gff_tree.specs.Fields.{kind_of, fields_of, node_from, list_in, found, replaced, appended}
use Rattle.gff_tree.specs.Places.{place_of_field}
use Rattle.gff_tree.proofs.FieldLaws.{from_in_fields, from_in_nodes, node_is_its_fields}
use Rattle.gff_tree.specs.Tree.{Struct, MoreFields, Children, MoreNodes, PlainField, PlainLeaf, plain_node, plain_fields, plain_leaf, plain_nodes, plain_field, fields_list, nodes_list}

plain_fields_items : {m : _} (es : Row_of-Field m) → plain_fields es ≡ fields_list (items-the_row-Field m es)
plain_fields_items end_of-Field = refl
plain_fields_items (more_of-Field label holds rest) = ap (MoreFields label (plain_leaf holds)) (plain_fields_items rest)

plain_nodes_items : {m : _} (es : Row_of-Node m) → plain_nodes es ≡ nodes_list (items-the_row-Node m es)
plain_nodes_items end_of-Node = refl
plain_nodes_items (more_of-Node node rest) = ap (MoreNodes (plain_node node)) (plain_nodes_items rest)

pub plain_node_is : (kind : ℕ) (fields : Vec Field Global) → plain_node (roll-Node (record { kind = kind; fields = fields })) ≡ Struct kind (fields_list fields.items)
plain_node_is kind fields = search (rules, views.the_lemmas, plain_fields_items)

pub plain_list_is : (nodes : Vec Node Global) → plain_leaf (views.List nodes) ≡ Children (nodes_list nodes.items)
plain_list_is nodes = search (rules, views.the_lemmas, plain_nodes_items)

pub plain_node_out : (node : Node) → plain_node node ≡ Struct (out-Node node).kind (fields_list (out-Node node).fields.items)
plain_node_out node = ap plain_node (sym (roll-out-Node node)) ∙ plain_node_is (out-Node node).kind (out-Node node).fields

pub leaf_is_list : (leaf : Leaf) (nodes : Vec Node Global) → leaf ≡ views.List nodes → plain_leaf leaf ≡ Children (nodes_list nodes.items)
leaf_is_list leaf nodes is = ap plain_leaf is ∙ plain_list_is nodes

pub fields_out : (node : Node) (fields : List Field) → fields ≡ (out-Node node).fields.items → map plain_field fields ≡ fields_of (plain_node node)
fields_out node fields are =
    ap (map plain_field) are
    ∙ (sym (from_in_fields (map plain_field (out-Node node).fields.items)) ∙ sym (ap fields_of (plain_node_out node)))

pub node_out : (node : Node) (fields : List Field) → fields ≡ (out-Node node).fields.items → plain_node node ≡ node_from (kind_of (plain_node node)) (map plain_field fields)
node_out node fields are =
    let kind : (out-Node node).kind ≡ kind_of (plain_node node) = sym (ap kind_of (plain_node_out node)) in
    plain_node_out node ∙ (ap (λ (k : ℕ). node_from k (map plain_field (out-Node node).fields.items)) kind
    ∙ ap (λ (fs : List Field). node_from (kind_of (plain_node node)) (map plain_field fs)) (sym are))

pub nodes_of_list : (leaf : Leaf) (nodes : Vec Node Global) (items : List Node) → leaf ≡ views.List nodes → items ≡ nodes.items → list_in (plain_leaf leaf) ≡ Some (map plain_node items)
nodes_of_list leaf nodes items is are =
    ap list_in (leaf_is_list leaf nodes is) ∙ ap Some (from_in_nodes (map plain_node nodes.items) ∙ sym (ap (map plain_node) are))

pub old_fields : (node : Node) → map plain_field (out-Node node).fields.items ≡ fields_of (plain_node node)
old_fields node = fields_out node (out-Node node).fields.items refl

-- a struct whose fields were changed
pub remade : (node : Node) (fields : Vec Field Global) (plain : List PlainField) → map plain_field fields.items ≡ plain →
    plain_node (roll-Node (record { kind = (out-Node node).kind; fields = fields })) ≡ node_from (kind_of (plain_node node)) plain
remade node fields plain are =
    let kind : (out-Node node).kind ≡ kind_of (plain_node node) = sym (ap kind_of (plain_node_out node)) in
    plain_node_is (out-Node node).kind fields ∙ (ap (λ (k : ℕ). node_from k (map plain_field fields.items)) kind ∙ ap (node_from (kind_of (plain_node node))) are)

pub append_made : (node : Node) (fields : Vec Field Global) (label : List ℕ) (leaf : PlainLeaf) (r : Result (Unit {0}) NoMemory) →
    OnOk r (map plain_field fields.items ≡ appended label leaf (map plain_field (out-Node node).fields.items)) →
    OnOk r (plain_node (roll-Node (record { kind = (out-Node node).kind; fields = fields })) ≡ node_from (kind_of (plain_node node)) (appended label leaf (fields_of (plain_node node))))
append_made node fields label leaf (Ok u) is = remade node fields (appended label leaf (fields_of (plain_node node))) (is ∙ ap (appended label leaf) (old_fields node))
append_made node fields label leaf (Err e) is = tt

pub append_kept : (node : Node) (fields : Vec Field Global) (r : Result (Unit {0}) NoMemory) → OnErr r (map plain_field fields.items ≡ map plain_field (out-Node node).fields.items) →
    OnErr r (plain_node (roll-Node (record { kind = (out-Node node).kind; fields = fields })) ≡ plain_node node)
append_kept node fields (Ok u) is = tt
append_kept node fields (Err e) is = remade node fields (fields_of (plain_node node)) (is ∙ old_fields node) ∙ node_is_its_fields (plain_node node)

pub replace_old : (node : Node) (label : List ℕ) (r : Option Leaf) →
    MatchOption r (found label (map plain_field (out-Node node).fields.items) ≡ None) (λ (old : Leaf). found label (map plain_field (out-Node node).fields.items) ≡ Some (plain_leaf old)) →
    MatchOption r (found label (fields_of (plain_node node)) ≡ None) (λ (old : Leaf). found label (fields_of (plain_node node)) ≡ Some (plain_leaf old))
replace_old node label r is = subst (λ (fs : List PlainField). MatchOption r (found label fs ≡ None) (λ (old : Leaf). found label fs ≡ Some (plain_leaf old))) (old_fields node) is

pub replace_new : (node : Node) (fields : Vec Field Global) (label : List ℕ) (leaf : PlainLeaf) → map plain_field fields.items ≡ replaced label leaf (map plain_field (out-Node node).fields.items) →
    plain_node (roll-Node (record { kind = (out-Node node).kind; fields = fields })) ≡ node_from (kind_of (plain_node node)) (replaced label leaf (fields_of (plain_node node)))
replace_new node fields label leaf is = remade node fields (replaced label leaf (fields_of (plain_node node))) (is ∙ ap (replaced label leaf) (old_fields node))

-- ---- the field of a label by its place

here : (b : Bool) (i : ℕ) (rest : Option ℕ) (whole : Option ℕ) → b ≡ true → option_map (λ (k : ℕ). i + k) (cond b (Some 0) (option_map suc rest)) ≡ whole → Some i ≡ whole
here true i rest whole is e = let same : i ≡ i + 0 = omega arith in ap Some same ∙ e
here false i rest whole is e = absurd cc

pub place_here : (label : List ℕ) (fields : List Field) (i : ℕ) (field : Field) (whole : Option ℕ) → i < length fields → field ≡ get_or fields i field → bytes_eq label field.label ≡ true →
    option_map (λ (k : ℕ). i + k) (place_of_field label (map plain_field (drop i fields))) ≡ whole → Some i ≡ whole
place_here label fields i field whole lt is same at =
    let next : drop i fields ≡ field ∷ drop (i + 1) fields = rw (add-one, drop-cons fields i field) (ap (λ (f : Field). f ∷ drop (suc i) fields) (sym is)) in
    here (bytes_eq label field.label) i (place_of_field label (map plain_field (drop (i + 1) fields))) whole same
    (subst (λ (fs : List Field). option_map (λ (k : ℕ). i + k) (place_of_field label (map plain_field fs)) ≡ whole) next at)

absent_later : (o : Option ℕ) → option_map suc o ≡ None → o ≡ None
absent_later None e = refl
absent_later (Some k) e = absurd cc

pub place_none : (label : List ℕ) (leaf : PlainLeaf) (fields : List PlainField) → place_of_field label fields ≡ None → (found label fields ≡ None) × (fields ≡ replaced label leaf fields)
place_none label leaf [] e = (refl, refl)
place_none label leaf (field ∷ fields) e = by_test (bytes_eq label field.label) e (place_none label leaf fields)
  where
    by_test : (b : Bool) → cond b (Some 0) (option_map suc (place_of_field label fields)) ≡ None
        → (place_of_field label fields ≡ None → (found label fields ≡ None) × (fields ≡ replaced label leaf fields)) →
        (cond b (Some field.leaf) (found label fields) ≡ None) × (field ∷ fields ≡ cond b (record field { leaf = leaf } ∷ fields) (field ∷ replaced label leaf fields))
    by_test true h more = absurd cc
    by_test false h more = let rest = more (absent_later (place_of_field label fields) h) in (rest.0, ap (λ (fs : List PlainField). field ∷ fs) rest.1)

later_is : (i : ℕ) (o : Option ℕ) → option_map suc o ≡ Some i → (j : ℕ) × (o ≡ Some j) × (i ≡ suc j)
later_is i None e = absurd cc
later_is i (Some j) e = (j, refl, cc)

-- the field at the place of a label holds what is found, and is the one that is replaced
pub place_some : (label : List ℕ) (leaf : PlainLeaf) (fields : List PlainField) (i : ℕ) (d : PlainField) → place_of_field label fields ≡ Some i →
    (i < length fields) × (found label fields ≡ Some (get_or fields i d).leaf) × (set fields i (record { label = (get_or fields i d).label; leaf = leaf }) ≡ replaced label leaf fields)
place_some label leaf [] i d e = absurd cc
place_some label leaf (field ∷ fields) i d e = by_test (bytes_eq label field.label) e (λ j. place_some label leaf fields j d)
  where
    by_test : (b : Bool) → cond b (Some 0) (option_map suc (place_of_field label fields)) ≡ Some i →
        ((j : ℕ) → place_of_field label fields ≡ Some j
        → (j < length fields) × (found label fields ≡ Some (get_or fields j d).leaf)
        × (set fields j (record { label = (get_or fields j d).label; leaf = leaf }) ≡ replaced label leaf fields)) →
        (i < suc (length fields)) × (cond b (Some field.leaf) (found label fields) ≡ Some (get_or (field ∷ fields) i d).leaf)
        × (set (field ∷ fields) i (record { label = (get_or (field ∷ fields) i d).label; leaf = leaf }) ≡ cond b (record field { leaf = leaf } ∷ fields) (field ∷ replaced label leaf fields))
    by_test true h more =
        let zero_is : 0 ≡ i = cc in
        subst (λ (k : ℕ). (k < suc (length fields)) × (Some field.leaf ≡ Some (get_or (field ∷ fields) k d).leaf)
        × (set (field ∷ fields) k (record { label = (get_or (field ∷ fields) k d).label; leaf = leaf })
        ≡ record field { leaf = leaf } ∷ fields)) zero_is
        (omega arith, refl, refl)
    by_test false h more =
        let later = later_is i (place_of_field label fields) h in
        let rest = more later.0 later.1 in
        subst (λ (k : ℕ). (k < suc (length fields)) × (found label fields ≡ Some (get_or (field ∷ fields) k d).leaf)
        × (set (field ∷ fields) k (record { label = (get_or (field ∷ fields) k d).label; leaf = leaf })
        ≡ field ∷ replaced label leaf fields)) (sym later.2)
        (omega (arith, rest.0), rest.1, ap (λ (fs : List PlainField). field ∷ fs) rest.2)

pub replace_some : (label : List ℕ) (leaf : PlainLeaf) (items : List Field) (i : ℕ) (held : Field) → place_of_field label (map plain_field items) ≡ Some i → held ≡ get_or items i held →
    (i < length items) × (found label (map plain_field items) ≡ Some (plain_leaf held.leaf))
    × ((new : Field) → new.label ≡ held.label → plain_leaf new.leaf ≡ leaf → map plain_field (set items i new) ≡ replaced label leaf (map plain_field items))
replace_some label leaf items i held at is =
    let some = place_some label leaf (map plain_field items) i (plain_field held) at in
    let lt : i < length items = omega (arith, some.0, length-map items plain_field) in
    let same : get_or (map plain_field items) i (plain_field held) ≡ plain_field held = get_or-map plain_field items i held (plain_field held) lt ∙ ap plain_field (sym is) in (
      lt,
      some.1 ∙ ap (λ (f : PlainField). Some f.leaf) same,
      λ new label_is leaf_is. map-set plain_field items i new
          ∙ (ap (λ (l : List ℕ). set (map plain_field items) i (record { label = l; leaf = plain_leaf new.leaf })) (label_is ∙ ap (λ (f : PlainField). f.label) (sym same))
          ∙ (ap (λ (h : PlainLeaf). set (map plain_field items) i (record { label = (get_or (map plain_field items) i (plain_field held)).label; leaf = h })) leaf_is ∙ some.2)),
    )

pub place_below : (label : List ℕ) (items : List Field) (i : ℕ) → place_of_field label (map plain_field items) ≡ Some i → i < length items
place_below label [] i at = absurd cc
place_below label (field ∷ items) i at =
    let some = place_some label (plain_leaf field.leaf) (map plain_field (field ∷ items)) i (plain_field field) at in
    omega (arith, some.0, length-map (field ∷ items) plain_field)
