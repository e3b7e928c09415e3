-- A text that a loop appends piece by piece.
use Rattle.std.proofs.Common.{◌≡◌, ◌<◌, ◌+◌, ℕ, suc, List, ◌∷◌, ◌++◌, length, get_or, drop, drop-cons, add-one, map, Some, Result, Ok, Err, sym, ap, subst, ◌∙◌, append_assoc}
use Rattle.std.specs.Prelude.{codes}
use Rattle.std.specs.Result.{OnOk}
use Rattle.std.specs.Fmt.{decimal}
use Rattle.std.proofs.lemmas.List.{length-map}
use Rattle.nwq_value.specs.declared.memory.NoMemory.{NoMemory}
use Rattle.gff_tree.specs.Fields.{NodesAreTheLists}
use Rattle.std.specs.List.{flat_map}
use Rattle.gff_tree.specs.declared.tree.Field.{Field}
use Rattle.gff_tree.specs.declared.tree.Node.{Node}
use Rattle.gff_tree.specs.Tree.{PlainNode, PlainFields, PlainLeaf, Struct, Children, plain_node, plain_leaf, fields_list, nodes_in, nodes_list}
use Rattle.nwq_text.specs.Escape.{escaped}
use Rattle.gff_text.specs.Text.{line, leaf_text, struct_lines, field_lines, lines_below, list_lines}

next_item : {X : Type 0} (xs : List X) (i : ℕ) (x : X) → i < length xs → x ≡ get_or xs i x → drop i xs ≡ x ∷ drop (i + 1) xs
next_item {X} xs i x lt is = rw (add-one, drop-cons xs i x) (ap (λ (y : X). y ∷ drop (suc i) xs) (sym is))

-- one more item's text
pub one_more : {X : Type 0} (text : X → List ℕ) (xs : List X) (i : ℕ) (x : X) (out now whole : List ℕ) → i < length xs
    → x ≡ get_or xs i x → out ++ flat_map text (drop i xs) ≡ whole → now ≡ out ++ text x →
    now ++ flat_map text (drop (i + 1) xs) ≡ whole
one_more {X} text xs i x out now whole lt is before grown =
    let at : out ++ (text x ++ flat_map text (drop (i + 1) xs)) ≡ whole = subst (λ (ys : List X). out ++ flat_map text ys ≡ whole) (next_item xs i x lt is) before in
    ap (λ (o : List ℕ). o ++ flat_map text (drop (i + 1) xs)) grown ∙ (append_assoc out (text x) (flat_map text (drop (i + 1) xs)) ∙ at)

-- one more field, and what stands in it
pub one_field : (depth : ℕ) (fields : List Field) (i : ℕ) (field : Field) (out lined now whole : List ℕ)
    → i < length fields → field ≡ get_or fields i field
    → out ++ field_lines depth (fields_list (drop i fields)) ≡ whole →
    lined ≡ out ++ line depth (escaped field.label ++ 32 ∷ leaf_text (plain_leaf field.leaf)) → now ≡ lined ++ lines_below (depth + 2) (plain_leaf field.leaf) →
    now ++ field_lines depth (fields_list (drop (i + 1) fields)) ≡ whole
one_field depth fields i field out lined now whole lt is before first grown =
    let own = line depth (escaped field.label ++ 32 ∷ leaf_text (plain_leaf field.leaf)) in
    let below = lines_below (depth + 2) (plain_leaf field.leaf) in
    let rest = field_lines depth (fields_list (drop (i + 1) fields)) in
    let at : out ++ (own ++ (below ++ rest)) ≡ whole = subst (λ (fs : List Field). out ++ field_lines depth (fields_list fs) ≡ whole) (next_item fields i field lt is) before in
    ap (λ (o : List ℕ). o ++ rest) (grown ∙ ap (λ (o : List ℕ). o ++ below) first)
    ∙ (append_assoc (out ++ own) below rest ∙ (append_assoc out own (below ++ rest) ∙ at))

-- a struct's line and all its fields
pub struct_done : (old lined now : List ℕ) (depth below kind : ℕ) (node : PlainNode) (fields : PlainFields) → now ≡ lined ++ field_lines below fields →
    lined ≡ old ++ line depth (codes "struct " ++ decimal kind) → below ≡ depth + 2 → node ≡ Struct kind fields → now ≡ old ++ struct_lines depth node
struct_done old lined now depth below kind node fields walked first lower made =
    let own = line depth (codes "struct " ++ decimal kind) in
    walked
    ∙ (ap (λ (k : ℕ). lined ++ field_lines k fields) lower
    ∙ (ap (λ (o : List ℕ). o ++ field_lines (depth + 2) fields) first ∙ (append_assoc old own (field_lines (depth + 2) fields) ∙ ap (λ (n : PlainNode). old ++ struct_lines depth n) (sym made))))

-- one more struct
pub one_struct : (depth : ℕ) (nodes : List Node) (i : ℕ) (node : Node) (out now whole : List ℕ) → i < length nodes
    → node ≡ get_or nodes i node → out ++ list_lines depth (nodes_list (drop i nodes)) ≡ whole →
    now ≡ out ++ struct_lines depth (plain_node node) → now ++ list_lines depth (nodes_list (drop (i + 1) nodes)) ≡ whole
one_struct depth nodes i node out now whole lt is before grown =
    let rest = list_lines depth (nodes_list (drop (i + 1) nodes)) in
    let at : out ++ (struct_lines depth (plain_node node) ++ rest) ≡ whole = subst (λ (ns : List Node). out ++ list_lines depth (nodes_list ns) ≡ whole) (next_item nodes i node lt is) before in
    ap (λ (o : List ℕ). o ++ rest) grown ∙ (append_assoc out (struct_lines depth (plain_node node)) rest ∙ at)

-- a list's line has the count of its structs
pub list_count : (nodes : List Node) → NodesAreTheLists → length (nodes_in (nodes_list nodes)) ≡ length nodes
list_count nodes law = ap length (some_is (nodes_in (nodes_list nodes)) (map plain_node nodes) (law (map plain_node nodes))) ∙ length-map nodes plain_node
  where
    some_is : (xs ys : List PlainNode) → Some xs ≡ Some ys → xs ≡ ys
    some_is xs ys e = cc

pub list_line : (r : Result (Unit {0}) NoMemory) (new old word : List ℕ) (leaf : PlainLeaf) (nodes : List Node) (n : ℕ)
    → NodesAreTheLists → leaf ≡ Children (nodes_list nodes) → n ≡ length nodes → word ≡ codes "list " →
    OnOk r (new ≡ (old ++ word) ++ decimal n) → OnOk r (new ≡ old ++ leaf_text leaf)
list_line (Ok u) new old word leaf nodes n law is count worded made =
    made
    ∙ (append_assoc old word (decimal n)
    ∙ (ap (λ (w : List ℕ). old ++ (w ++ decimal n)) worded
    ∙ (ap (λ (k : ℕ). old ++ (codes "list " ++ decimal k)) (count ∙ sym (list_count nodes law))
    ∙ ap (λ (l : PlainLeaf). old ++ leaf_text l) (sym is))))
list_line (Err e) new old word leaf nodes n law is count worded made = tt
