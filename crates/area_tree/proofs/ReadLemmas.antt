-- How many structs a tree's fields and lists hold, and which place is the first.
use Rattle.std.proofs.Common.{◌≡◌, ◌≤◌, ◌<◌, ◌+◌, ℕ, suc, Bool, true, false, cond, List, [], ◌∷◌, ◌++◌, length, map, get_or, drop, drop-cons, add-one, Option, None, Some, Result, Err, MatchOption}
use Rattle.std.proofs.Common.{refl, sym, ap, subst, ◌∙◌, append_assoc, arith}
use Rattle.std.specs.Str.{bytes_eq}
use Rattle.std.specs.Borrow.{Bor}
use Rattle.std.specs.Result.{IfErr}
use Rattle.gff_tree.specs.declared.tree.Leaf.{Leaf}
use Rattle.gff_tree.specs.declared.tree.Node.{Node}
use Rattle.gff_tree.specs.declared.tree.Field.{Field}
use Rattle.gff_tree.specs.Tree.{PlainNode, PlainFields, PlainLeaf, PlainNodes, PlainField, Struct, NoField, MoreFields, Holds, Child, Children, Byte, Char, Word, Short, Dword, Int, Dword64, Int64}
use Rattle.gff_tree.specs.Tree.{Float, Double, Str, Res, Localized, Void, NoNode, MoreNodes, plain_node, plain_field, plain_leaf, fields_in, nodes_in, nodes_from, nodes_list}
use Rattle.gff_tree.specs.Fields.{fields_of, list_in, found}
use Rattle.gff_tree.specs.Count.{node_count, fields_count, leaf_count, nodes_count}
use Rattle.area_rules.specs.declared.fault.AreaFault.{AreaFault}
use Rattle.area_rules.specs.declared.fault.AreaFault.TheVariants as fault
use Rattle.area_rules.specs.Objects.{AreaObject, Script, structs_in, object_of, objects_under, with_script, scripts_in}
use Rattle.area_rules.specs.Broken.{Place, IsFirst, member_places, members_places, list_places, lists_places}
use Rattle.area_tree.specs.Reading.{leaf_in, leaves_count}

pub find_is : (found_leaf : Option PlainLeaf) (result : Option (Bor Leaf)) → MatchOption result (found_leaf ≡ None) (λ leaf. found_leaf ≡ Some (plain_leaf leaf.now)) → found_leaf ≡ leaf_in result
find_is f None is = is
find_is f (Some leaf) is = is

some_is : {X : Type 0} (x y : X) → Some x ≡ Some y → x ≡ y
some_is x y e = cc

leaf_within : (b : Bool) (first : PlainLeaf) (rest : Option PlainLeaf) (count : ℕ) → leaves_count rest ≤ count → leaves_count (cond b (Some first) rest) ≤ leaf_count first + count
leaf_within true first rest count le = omega arith
leaf_within false first rest count le = omega (arith, le)

found_within : (label : List ℕ) (fields : PlainFields) → leaves_count (found label (fields_in fields)) ≤ fields_count fields
found_within label NoField = omega arith
found_within label (MoreFields name leaf rest) = leaf_within (bytes_eq label name) leaf (found label (fields_in rest)) (fields_count rest) (found_within label rest)

-- what stands in a field of a struct has fewer structs than the struct
pub found_few : (label : List ℕ) (node : PlainNode) → leaves_count (found label (fields_of node)) ≤ node_count node
found_few label (Struct kind fields) = omega (arith, found_within label fields)

-- a struct is one at least
pub at_least : (node : PlainNode) → 1 ≤ node_count node
at_least (Struct kind fields) = omega arith

long_nodes : (nodes : PlainNodes) → length (nodes_in nodes) ≤ nodes_count nodes
long_nodes NoNode = omega arith
long_nodes (MoreNodes node rest) = omega (arith, at_least node, long_nodes rest)

pub structs_few : (leaf : Option PlainLeaf) → length (structs_in leaf) ≤ leaves_count leaf
structs_few None = omega arith
structs_few (Some (Holds scalar)) = omega arith
structs_few (Some (Child node)) = omega arith
structs_few (Some (Children nodes)) = long_nodes nodes

pub table_few : (label : List ℕ) (node : PlainNode) (bound : ℕ) → node_count node < bound → length (structs_in (found label (fields_of node))) < bound
table_few label node bound lt = omega (arith, lt, found_few label node, structs_few (found label (fields_of node)))

same_count : (nodes : PlainNodes) → nodes_count (nodes_from (nodes_in nodes)) ≡ nodes_count nodes
same_count NoNode = refl
same_count (MoreNodes node rest) = ap (λ (n : ℕ). node_count node + n) (same_count rest)

pub list_count : (leaf : PlainLeaf) (nodes : List PlainNode) → list_in leaf ≡ Some nodes → nodes_count (nodes_from nodes) ≡ leaf_count leaf
list_count (Holds scalar) nodes e = absurd cc
list_count (Child node) nodes e = absurd cc
list_count (Children of_list) nodes e = ap (λ (ns : List PlainNode). nodes_count (nodes_from ns)) (sym (some_is (nodes_in of_list) nodes e)) ∙ same_count of_list

-- what stands at a place of a list, and all behind it
pub next_item : {A : Type 0} → (xs : List A) (i : ℕ) (x : A) → i < length xs → x ≡ get_or xs i x → drop i xs ≡ x ∷ drop (i + 1) xs
next_item {A = A} xs i x lt is = rw (add-one, drop-cons xs i x) (ap (λ (y : A). y ∷ drop (suc i) xs) (sym is))

pub next_count : (nodes : List Node) (i : ℕ) (node : Node) → i < length nodes → node ≡ get_or nodes i node
    → nodes_count (nodes_list (drop i nodes))
    ≡ node_count (plain_node node) + nodes_count (nodes_list (drop (i + 1) nodes))
next_count nodes i node lt is = ap (λ (ns : List Node). nodes_count (nodes_list ns)) (next_item nodes i node lt is)

-- the first of some places is the first of these and of more behind them
pub first_of_more : (e : AreaFault) (places more : List Place) → IsFirst e places → IsFirst e (places ++ more)
first_of_more (fault.Shape n m k) places more f = (f.0 ++ more, ap (λ (ps : List Place). ps ++ more) f.1)
first_of_more fault.NoMemory places more f = tt

pub first_along : (e : AreaFault) (places whole : List Place) → places ≡ whole → IsFirst e places → IsFirst e whole
first_along e places whole is f = subst (IsFirst e) is f

-- ---- a turn of the loop over a list's members

places_open : (list m : ℕ) (nodes : List Node) (i : ℕ) (node : Node) (whole : List Place) → i < length nodes → node ≡ get_or nodes i node →
    members_places list m (map plain_node (drop i nodes)) ≡ whole → member_places list m (plain_node node) ++ members_places list (m + 1) (map plain_node (drop (i + 1) nodes)) ≡ whole
places_open list m nodes i node whole lt is at = subst (λ (ns : List Node). members_places list m (map plain_node ns) ≡ whole) (next_item nodes i node lt is) at

pub members_next : (list m : ℕ) (nodes : List Node) (i : ℕ) (node : Node) (whole : List Place) → i < length nodes → node ≡ get_or nodes i node →
    members_places list m (map plain_node (drop i nodes)) ≡ whole → member_places list m (plain_node node) ≡ [] → members_places list (m + 1) (map plain_node (drop (i + 1) nodes)) ≡ whole
members_next list m nodes i node whole lt is at none =
    ap (λ (ps : List Place). ps ++ members_places list (m + 1) (map plain_node (drop (i + 1) nodes))) (sym none) ∙ places_open list m nodes i node whole lt is at

pub members_first : (e : AreaFault) (list m : ℕ) (nodes : List Node) (i : ℕ) (node : Node) (whole : List Place) → i < length nodes → node ≡ get_or nodes i node →
    members_places list m (map plain_node (drop i nodes)) ≡ whole → IsFirst e (member_places list m (plain_node node)) → IsFirst e whole
members_first e list m nodes i node whole lt is at f =
    first_along e _ whole (places_open list m nodes i node whole lt is at)
    (first_of_more e (member_places list m (plain_node node))
    (members_places list (m + 1) (map plain_node (drop (i + 1) nodes))) f)

pub objects_next : (objects now whole : List AreaObject) (object : AreaObject) (nodes : List Node) (i : ℕ) (node : Node) → i < length nodes → node ≡ get_or nodes i node →
    objects ++ map object_of (map plain_node (drop i nodes)) ≡ whole → now ≡ objects ++ object ∷ [] → object ≡ object_of (plain_node node) →
    now ++ map object_of (map plain_node (drop (i + 1) nodes)) ≡ whole
objects_next objects now whole object nodes i node lt is at grown made =
    let open_at : objects ++ (object_of (plain_node node) ∷ map object_of (map plain_node (drop (i + 1) nodes))) ≡ whole =
    subst (λ (ns : List Node). objects ++ map object_of (map plain_node ns) ≡ whole) (next_item nodes i node lt is) at in
    let rest = map object_of (map plain_node (drop (i + 1) nodes)) in
    ap (λ (os : List AreaObject). os ++ rest) grown
    ∙ (append_assoc objects (object ∷ []) rest ∙ (ap (λ (o : AreaObject). objects ++ (o ∷ rest)) made ∙ open_at))

pub few_next : (m : ℕ) (nodes : List Node) (i : ℕ) (node : Node) (bound : ℕ) → i < length nodes → node ≡ get_or nodes i node → m + nodes_count (nodes_list (drop i nodes)) < bound →
    m + 1 + nodes_count (nodes_list (drop (i + 1) nodes)) < bound
few_next m nodes i node bound lt is few = omega (arith, few, next_count nodes i node lt is, at_least (plain_node node))

pub few_item : (m : ℕ) (nodes : List Node) (i : ℕ) (node : Node) (bound : ℕ) → i < length nodes
    → node ≡ get_or nodes i node → m + nodes_count (nodes_list (drop i nodes)) < bound
    → node_count (plain_node node) < bound
few_item m nodes i node bound lt is few = omega (arith, few, next_count nodes i node lt is)

pub if_first : {X : Type 0} (r : Result X AreaFault) (e : AreaFault) (places : List Place) → r ≡ Err e → IsFirst e places → IfErr r (λ (d : AreaFault). IsFirst d places)
if_first {X = X} r e places is f = subst (λ (q : Result X AreaFault). IfErr q (λ (d : AreaFault). IsFirst d places)) (sym is) f

-- ---- a turn of the loop over the five lists

lists_open : (n : ℕ) (labels rest : List (List ℕ)) (label : List ℕ) (fields : List PlainField) (whole : List Place) → labels ≡ label ∷ rest →
    lists_places n labels fields ≡ whole → list_places n (found label fields) ++ lists_places (n + 1) rest fields ≡ whole
lists_open n labels rest label fields whole is at = subst (λ (ls : List (List ℕ)). lists_places n ls fields ≡ whole) is at

pub lists_next : (n : ℕ) (labels rest : List (List ℕ)) (label : List ℕ) (fields : List PlainField) (leaf : Option PlainLeaf) (whole : List Place) → labels ≡ label ∷ rest → found label fields ≡ leaf →
    lists_places n labels fields ≡ whole → list_places n leaf ≡ [] → lists_places (n + 1) rest fields ≡ whole
lists_next n labels rest label fields leaf whole is there at none =
    ap (λ (ps : List Place). ps ++ lists_places (n + 1) rest fields) (sym (ap (list_places n) there ∙ none)) ∙ lists_open n labels rest label fields whole is at

pub lists_first : (e : AreaFault) (n : ℕ) (labels rest : List (List ℕ)) (label : List ℕ) (fields : List PlainField)
    (leaf : Option PlainLeaf) (whole : List Place) → labels ≡ label ∷ rest → found label fields ≡ leaf →
    lists_places n labels fields ≡ whole → IsFirst e (list_places n leaf) → IsFirst e whole
lists_first e n labels rest label fields leaf whole is there at f =
    first_along e _ whole (lists_open n labels rest label fields whole is at)
    (first_of_more e (list_places n (found label fields)) (lists_places (n + 1) rest fields) (subst (λ (l : Option PlainLeaf). IsFirst e (list_places n l)) (sym there) f))

pub under_next : (objects now whole : List AreaObject) (labels rest : List (List ℕ)) (label : List ℕ)
    (fields : List PlainField) (leaf : Option PlainLeaf) → labels ≡ label ∷ rest → found label fields ≡ leaf →
    objects ++ objects_under labels fields ≡ whole → now ≡ objects ++ map object_of (structs_in leaf) → now ++ objects_under rest fields ≡ whole
under_next objects now whole labels rest label fields leaf is there at grown =
    let behind = objects_under rest fields in
    ap (λ (os : List AreaObject). os ++ behind) grown
    ∙ (append_assoc objects (map object_of (structs_in leaf)) behind
    ∙ (ap (λ (l : Option PlainLeaf). objects ++ (map object_of (structs_in l) ++ behind)) (sym there)
    ∙ subst (λ (ls : List (List ℕ)). objects ++ objects_under ls fields ≡ whole) is at))

-- ---- a turn of the loop over a struct's fields

script_before : (label : List ℕ) (leaf : PlainLeaf) (rest : List Script) → with_script label leaf rest ≡ with_script label leaf [] ++ rest
script_before label (Child node) rest = refl
script_before label (Children nodes) rest = refl
script_before label (Holds (Byte n)) rest = refl
script_before label (Holds (Char n)) rest = refl
script_before label (Holds (Word n)) rest = refl
script_before label (Holds (Short n)) rest = refl
script_before label (Holds (Dword n)) rest = refl
script_before label (Holds (Int n)) rest = refl
script_before label (Holds (Dword64 n)) rest = refl
script_before label (Holds (Int64 n)) rest = refl
script_before label (Holds (Float n)) rest = refl
script_before label (Holds (Double n)) rest = refl
script_before label (Holds (Str text)) rest = refl
script_before label (Holds (Res name)) rest = refl
script_before label (Holds (Localized text)) rest = refl
script_before label (Holds (Void bytes)) rest = refl

pub scripts_next : (before now whole : List Script) (fields : List Field) (i : ℕ) (field : Field) → i < length fields → field ≡ get_or fields i field →
    before ++ scripts_in (map plain_field (drop i fields)) ≡ whole → now ≡ before ++ with_script field.label (plain_field field).leaf [] →
    now ++ scripts_in (map plain_field (drop (i + 1) fields)) ≡ whole
scripts_next before now whole fields i field lt is at grown =
    let behind = scripts_in (map plain_field (drop (i + 1) fields)) in
    let own = with_script field.label (plain_field field).leaf [] in
    ap (λ (ss : List Script). ss ++ behind) grown
    ∙ (append_assoc before own behind
    ∙ (ap (λ (ss : List Script). before ++ ss) (sym (script_before field.label (plain_field field).leaf behind))
    ∙ subst (λ (fs : List Field). before ++ scripts_in (map plain_field fs) ≡ whole) (next_item fields i field lt is) at))
