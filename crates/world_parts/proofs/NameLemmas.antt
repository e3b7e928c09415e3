-- The names of an area's scripts are short: names of resources in a sound tree are.
use Rattle.std.proofs.Common.{◌≡◌, ◌≤◌, ◌-◌, ℕ, zero, suc, Bool, true, false, nat_le, List, [], ◌∷◌, ◌++◌, map, length, take, Option, Some, sym, subst, arith}
use Rattle.std.specs.Prelude.{if◌then◌else◌, codes}
use Rattle.std.specs.List.{AllByRecursion}
use Rattle.std.specs.Str.{bytes_eq}
use Rattle.std.proofs.lemmas.List as lists
use Rattle.std.proofs.lemmas.Bool.{false≢true, and_parts}
use Rattle.std.proofs.lemmas.Bool.Decides.{nat_tests}
use Rattle.nwq_value.specs.Limits.{text_limit}
use Rattle.gff_tree.specs.Tree.{PlainNode, PlainFields, PlainLeaf, PlainNodes, Scalar, Struct, NoField, MoreFields, Holds, Child, Children, NoNode, MoreNodes, Byte, Char, Word, Short, Dword, Int}
use Rattle.gff_tree.specs.Tree.{Dword64, Int64, Float, Double, Str, Res, Localized, Void, fields_in, nodes_in, labels_of, are_distinct, resource_limit, struct_depth_limit, is_sound}
use Rattle.gff_tree.specs.Tree.{is_sound_node, are_sound_fields, is_sound_leaf, are_sound_nodes}
use Rattle.gff_tree.specs.Fields.{found}
use Rattle.area_rules.specs.Objects.{Script, AreaObject, structs_in, scripts_in, with_script, object_of, objects_of, objects_under, list_labels}
use Rattle.area_rules.specs.Area.{PlainArea, IsArea, bare, object, object_at, script_named, top_of}
use Rattle.world_rules.specs.Rows.{event_script, name_or}

abbrev IsShort : Script → Type 0
IsShort script = length script.name ≤ resource_limit

abbrev AreShort : List Script → Type 0
AreShort scripts = AllByRecursion IsShort scripts

abbrev HaveShort : List AreaObject → Type 0
HaveShort objects = AllByRecursion (λ (o : AreaObject). AreShort o.scripts) objects

-- ---- of a sound tree

short_scalar : (depth : ℕ) (label : List ℕ) (s : Scalar) (scripts : List Script) → is_sound_leaf depth (Holds s) ≡ true → AreShort scripts → AreShort (with_script label (Holds s) scripts)
short_scalar depth label (Byte n) scripts sound rest = rest
short_scalar depth label (Char n) scripts sound rest = rest
short_scalar depth label (Word n) scripts sound rest = rest
short_scalar depth label (Short n) scripts sound rest = rest
short_scalar depth label (Dword n) scripts sound rest = rest
short_scalar depth label (Int n) scripts sound rest = rest
short_scalar depth label (Dword64 n) scripts sound rest = rest
short_scalar depth label (Int64 n) scripts sound rest = rest
short_scalar depth label (Float b) scripts sound rest = rest
short_scalar depth label (Double b) scripts sound rest = rest
short_scalar depth label (Str text) scripts sound rest = rest
short_scalar depth label (Res name) scripts sound rest = (short_name name sound, rest)
  where
    short_name : (name : List ℕ) → nat_le (length name) resource_limit ≡ true → length name ≤ resource_limit
    short_name name sound = grind (arith, nat_tests, sound)
short_scalar depth label (Localized l) scripts sound rest = rest
short_scalar depth label (Void b) scripts sound rest = rest

short_fields : (depth : ℕ) (fields : PlainFields) → are_sound_fields depth fields ≡ true → AreShort (scripts_in (fields_in fields))
short_fields depth NoField sound = tt
short_fields depth (MoreFields label (Holds s) rest) sound =
    let both = and_parts (is_sound_leaf depth (Holds s)) (are_sound_fields depth rest) sound in
    short_scalar depth label s (scripts_in (fields_in rest)) both.0 (short_fields depth rest both.1)
short_fields depth (MoreFields label (Child node) rest) sound =
    short_fields depth rest (and_parts (is_sound_leaf depth (Child node)) (are_sound_fields depth rest) sound).1
short_fields depth (MoreFields label (Children nodes) rest) sound =
    short_fields depth rest (and_parts (is_sound_leaf depth (Children nodes)) (are_sound_fields depth rest) sound).1

short_node : (depth : ℕ) (node : PlainNode) → is_sound_node depth node ≡ true → AreShort (object_of node).scripts
short_node zero (Struct kind fields) sound = absurd (false≢true sound)
short_node (suc depth) (Struct kind fields) sound =
    short_fields depth fields (and_parts (are_distinct bytes_eq (labels_of fields)) (are_sound_fields depth fields) sound).1

short_nodes : (depth : ℕ) (nodes : PlainNodes) → are_sound_nodes depth nodes ≡ true → HaveShort (map object_of (nodes_in nodes))
short_nodes depth NoNode sound = tt
short_nodes depth (MoreNodes node rest) sound =
    let both = and_parts (is_sound_node depth node) (are_sound_nodes depth rest) sound in
    (short_node depth node both.0, short_nodes depth rest both.1)

short_leaf : (depth : ℕ) (leaf : PlainLeaf) → is_sound_leaf depth leaf ≡ true → HaveShort (map object_of (structs_in (Some leaf)))
short_leaf depth (Holds s) sound = tt
short_leaf depth (Child node) sound = tt
short_leaf depth (Children nodes) sound = short_nodes depth nodes sound

short_if : (b : Bool) (leaf : PlainLeaf) (rest : Option PlainLeaf) → HaveShort (map object_of (structs_in (Some leaf))) → HaveShort (map object_of (structs_in rest)) →
    HaveShort (map object_of (structs_in (if b then Some leaf else rest)))
short_if true leaf rest here further = here
short_if false leaf rest here further = further

short_found : (depth : ℕ) (label : List ℕ) (fields : PlainFields) → are_sound_fields depth fields ≡ true → HaveShort (map object_of (structs_in (found label (fields_in fields))))
short_found depth label NoField sound = tt
short_found depth label (MoreFields own leaf rest) sound =
    let both = and_parts (is_sound_leaf depth leaf) (are_sound_fields depth rest) sound in
    short_if (bytes_eq label own) leaf (found label (fields_in rest)) (short_leaf depth leaf both.0) (short_found depth label rest both.1)

short_joined : (xs ys : List AreaObject) → HaveShort xs → HaveShort ys → HaveShort (xs ++ ys)
short_joined [] ys a b = b
short_joined (x ∷ xs) ys a b = (a.0, short_joined xs ys a.1 b)

short_under : (depth : ℕ) (labels : List (List ℕ)) (fields : PlainFields) → are_sound_fields depth fields ≡ true → HaveShort (objects_under labels (fields_in fields))
short_under depth [] fields sound = tt
short_under depth (label ∷ labels) fields sound =
    short_joined (map object_of (structs_in (found label (fields_in fields)))) (objects_under labels (fields_in fields)) (short_found depth label fields sound) (short_under depth labels fields sound)

short_top : (depth : ℕ) (top : PlainNode) → is_sound_node depth top ≡ true → HaveShort (objects_of top)
short_top zero (Struct kind fields) sound = absurd (false≢true sound)
short_top (suc depth) (Struct kind fields) sound =
    short_under depth list_labels fields (and_parts (are_distinct bytes_eq (labels_of fields)) (are_sound_fields depth fields) sound).1

-- ---- of an area

bare_short : (xs : List AreaObject) → HaveShort xs → HaveShort (map bare xs)
bare_short [] all = tt
bare_short (x ∷ xs) all = (all.0, bare_short xs all.1)

short_bare : (xs : List AreaObject) → HaveShort (map bare xs) → HaveShort xs
short_bare [] all = tt
short_bare (x ∷ xs) all = (all.0, short_bare xs all.1)

short_area : (area : PlainArea) → IsArea area → HaveShort area.objects
unfolding is_sound
short_area area is =
    short_bare area.objects (subst HaveShort (sym is.same) (bare_short (objects_of (top_of area)) (short_top struct_depth_limit (top_of area) is.sound)))

short_at : (objects : List AreaObject) (i : ℕ) → HaveShort objects → AreShort (object_at objects i).scripts
short_at [] i all = tt
short_at (x ∷ xs) zero all = all.0
short_at (x ∷ xs) (suc i) all = short_at xs i all.1

named_if : (b : Bool) (name rest : List ℕ) → length name ≤ resource_limit → length rest ≤ resource_limit → length (if b then name else rest) ≤ resource_limit
named_if true name rest here further = here
named_if false name rest here further = further

short_named : (label : List ℕ) (scripts : List Script) → AreShort scripts → length (script_named label scripts) ≤ resource_limit
short_named label [] all = omega arith
short_named label (s ∷ scripts) all = named_if (bytes_eq label s.label) s.name (script_named label scripts) all.0 (short_named label scripts all.1)

short_or : (first second : List ℕ) → length first ≤ resource_limit → length second ≤ resource_limit → length (name_or first second) ≤ resource_limit
short_or [] second a b = b
short_or (x ∷ first) second a b = a

-- a text keeps the whole name
pub name_kept : (area : PlainArea) (o : ℕ) → IsArea area → take text_limit (event_script (object area o).scripts) ≡ event_script (object area o).scripts
name_kept area o is =
    let scripts = (object area o).scripts in
    let all = short_at area.objects (o - 1) (short_area area is) in
    let few = short_or (script_named (codes "ScriptUserDefine") scripts) (script_named (codes "OnUserDefined") scripts)
    (short_named (codes "ScriptUserDefine") scripts all) (short_named (codes "OnUserDefined") scripts all) in
    lists.take_all text_limit (event_script scripts) (omega (arith, few))
