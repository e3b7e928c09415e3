-- The values of a plan's world are kept.
use Rattle.std.proofs.Common.{◌≤◌, ◌+◌, ◌*◌, ℕ, ℤ, pos, zero, suc, Bool, true, false, List, [], ◌∷◌, length, map, replicate, Option, None, Some, arith, length-append}
use Rattle.std.specs.Prelude.{if◌then◌else◌, ◌==◌, codes}
use Rattle.std.specs.List.{AllByRecursion, fold}
use Rattle.std.specs.Str.{bytes_eq}
use Rattle.std.proofs.lemmas.List.{length-map}
use Rattle.nwq_value.specs.Limits.{file_limit}
use Rattle.gff_tree.specs.Tree as tree
use Rattle.gff_tree.specs.Tree.{PlainNode, PlainFields, PlainLeaf, PlainField, PlainNodes, Struct, NoField, MoreFields, Holds, Child, Children, NoNode, MoreNodes, fields_in, nodes_in}
use Rattle.gff_tree.specs.Fields.{fields_of, found}
use Rattle.gff_tree.specs.Whole.{PlainGff}
use Rattle.gff_tree.specs.Count.{node_count, fields_count, leaf_count, nodes_count}
use Rattle.gff_read.specs.Laws.{TreesAreFew}
use Rattle.gff_read.specs.Stands.{Stands}
use Rattle.local_variables.specs.Variables.{Variable}
use Rattle.area_rules.specs.Objects.{Script, Entry, Broken, Unread, Tells, structs_in, dword_in, int_in, string_in, int_entry, text_entry, typed_entry, entry_of, with_entry, variables_in, tag_in}
use Rattle.area_rules.specs.Objects.{with_script, scripts_in, object_of, list_labels, objects_under, objects_of}
use Rattle.area_rules.specs.Area.{PlainArea, area_of, object, by_tag}
use Rattle.plan_text.specs.declared.plan.Line.{Line}
use Rattle.plan_text.specs.declared.plan.Line.TheVariants.{Event, Start, Free}
use Rattle.plan_text.specs.Plans.{IsLine, AreRandoms}
use Rattle.delay_agenda.specs.declared.entry.Kind.TheVariants as work
use Rattle.saved_state.specs.declared.saved.Saved.{Saved}
use Rattle.state_format.specs.Parts.{AreStateBytes, IsMaybe, IsNumber, IsSigned}
use Rattle.world_rules.specs.World.{World}
use Rattle.world_rules.specs.Turns.{Planned, idle, still, with_planned}
use Rattle.play_worlds.specs.Worlds.{script_at, begun_by}
use Rattle.play_room.specs.Room.{IsText, VariableHasRoom}
use Rattle.play_room.specs.Kept.{ObjectIsKept, AreaIsKept, ThingsAreKept, WorldIsKept}
use Rattle.play_room.specs.Laws.{PlanWorldsAreKept}
use Rattle.play_room.proofs.Lists.{either, all_append, all_weaker, all_mapped}
use Rattle.play_room.proofs.Texts.{cut_text, zero_fits, script_name_text}
use Rattle.play_room.proofs.Changes.{object_kept, named_text, tag_number, post_kept}
use Rattle.play_room.proofs.Trees.{NodeHasRoom, FieldsHaveRoom, LeafHasRoom, NodesHaveRoom, top_room, structs_few}

-- ---- fields of structs

abbrev FieldHasRoom : PlainField → Type 0
FieldHasRoom field = LeafHasRoom field.leaf

listed_fields : (fields : PlainFields) → FieldsHaveRoom fields → AllByRecursion FieldHasRoom (fields_in fields)
listed_fields NoField room = tt
listed_fields (MoreFields label holds rest) room = (room.0, listed_fields rest room.1)

fields_room : (node : PlainNode) → NodeHasRoom node → AllByRecursion FieldHasRoom (fields_of node)
fields_room (Struct kind fields) room = listed_fields fields room

found_room : (label : List ℕ) (fields : List PlainField) → AllByRecursion FieldHasRoom fields → IsMaybe LeafHasRoom (found label fields)
found_room label [] all = tt
found_room label (field ∷ fields) all =
    either (IsMaybe LeafHasRoom) (bytes_eq label field.label) (Some field.leaf) (found label fields) all.0 (found_room label fields all.1)

nodes_room : (nodes : PlainNodes) → NodesHaveRoom nodes → AllByRecursion NodeHasRoom (nodes_in nodes)
nodes_room NoNode room = tt
nodes_room (MoreNodes node rest) room = (room.0, nodes_room rest room.1)

structs_room : (leaf : Option PlainLeaf) → IsMaybe LeafHasRoom leaf → AllByRecursion NodeHasRoom (structs_in leaf)
structs_room None room = tt
structs_room (Some (Holds scalar)) room = tt
structs_room (Some (Child node)) room = tt
structs_room (Some (Children nodes)) room = nodes_room nodes room

-- ---- an object

int_room : (leaf : Option PlainLeaf) → IsMaybe LeafHasRoom leaf → IsMaybe IsSigned (int_in leaf)
int_room (Some (Holds (tree.Int n))) room = room
int_room leaf room = tt

string_room : (leaf : Option PlainLeaf) → IsMaybe LeafHasRoom leaf → IsMaybe AreStateBytes (string_in leaf)
string_room (Some (Holds (tree.Str text))) room = room
string_room leaf room = tt

tag_room : (leaf : Option PlainLeaf) → IsMaybe LeafHasRoom leaf → AreStateBytes (tag_in leaf)
tag_room (Some (Holds (tree.Str tag))) room = room
tag_room (Some (Holds (tree.Res tag))) room = room.1
tag_room leaf room = tt

abbrev TellsRoom : Entry → Type 0
TellsRoom Broken = Unit {0}
TellsRoom Unread = Unit {0}
TellsRoom (Tells v) = VariableHasRoom v

int_told : (name : Option (List ℕ)) (n : Option ℤ) → IsMaybe AreStateBytes name → IsMaybe IsSigned n → TellsRoom (int_entry name n)
int_told None n p q = tt
int_told (Some name) None p q = tt
int_told (Some name) (Some n) p q = (p, q)

text_told : (name text : Option (List ℕ)) → IsMaybe AreStateBytes name → IsMaybe AreStateBytes text → TellsRoom (text_entry name text)
text_told None text p q = tt
text_told (Some name) None p q = tt
text_told (Some name) (Some text) p q = (p, q)

typed_told : (type : Option ℕ) (name value : Option PlainLeaf) → IsMaybe LeafHasRoom name → IsMaybe LeafHasRoom value → TellsRoom (typed_entry type name value)
typed_told None name value p q = tt
typed_told (Some type) name value p q =
    let text = text_told (string_in name) (string_in value) (string_room name p) (string_room value q) in
    either TellsRoom (type == 1) (int_entry (string_in name) (int_in value)) _ (int_told (string_in name) (int_in value) (string_room name p) (int_room value q))
    (either TellsRoom (type == 3) (text_entry (string_in name) (string_in value)) Unread text tt)

entry_told : (node : PlainNode) → NodeHasRoom node → TellsRoom (entry_of node)
entry_told node room =
    let fields = fields_room node room in
    typed_told (dword_in (found (codes "Type") (fields_of node))) (found (codes "Name") (fields_of node)) (found (codes "Value") (fields_of node))
    (found_room (codes "Name") (fields_of node) fields) (found_room (codes "Value") (fields_of node) fields)

variable_room : (entry : Entry) (vars : List Variable) → TellsRoom entry → AllByRecursion VariableHasRoom vars → AllByRecursion VariableHasRoom (with_entry entry vars)
variable_room Broken vars room all = all
variable_room Unread vars room all = all
variable_room (Tells v) vars room all = (room, all)

variables_room : (entries : List PlainNode) → AllByRecursion NodeHasRoom entries → AllByRecursion VariableHasRoom (variables_in entries)
variables_room [] all = tt
variables_room (entry ∷ entries) all = variable_room (entry_of entry) (variables_in entries) (entry_told entry all.0) (variables_room entries all.1)

abbrev IsNamed : Script → Type 0
IsNamed s = IsText s.name

script_room : (label : List ℕ) (leaf : PlainLeaf) (scripts : List Script) → LeafHasRoom leaf → AllByRecursion IsNamed scripts → AllByRecursion IsNamed (with_script label leaf scripts)
script_room label (Holds (tree.Res name)) scripts room all = (room, all)
script_room label leaf scripts room all = all

scripts_room : (fields : List PlainField) → AllByRecursion FieldHasRoom fields → AllByRecursion IsNamed (scripts_in fields)
scripts_room [] all = tt
scripts_room (field ∷ fields) all = script_room field.label field.leaf (scripts_in fields) all.0 (scripts_room fields all.1)

object_room : (node : PlainNode) → NodeHasRoom node → ObjectIsKept (object_of node)
object_room node room =
    let fields = fields_room node room in
    record {
      tag = tag_room (found (codes "Tag") (fields_of node)) (found_room (codes "Tag") (fields_of node) fields);
      vars = variables_room (structs_in (found (codes "VarTable") (fields_of node))) (structs_room (found (codes "VarTable") (fields_of node)) (found_room (codes "VarTable") (fields_of node) fields));
      scripts = scripts_room (fields_of node) fields;
    }

each_object : (nodes : List PlainNode) → AllByRecursion NodeHasRoom nodes → AllByRecursion ObjectIsKept (map object_of nodes)
each_object nodes all = all_mapped ObjectIsKept object_of nodes (all_weaker NodeHasRoom (λ (node : PlainNode). ObjectIsKept (object_of node)) object_room nodes all)

objects_room : (labels : List (List ℕ)) (fields : List PlainField) → AllByRecursion FieldHasRoom fields → AllByRecursion ObjectIsKept (objects_under labels fields)
objects_room [] fields all = tt
objects_room (label ∷ labels) fields all =
    all_append ObjectIsKept (map object_of (structs_in (found label fields))) (objects_under labels fields)
    (each_object (structs_in (found label fields)) (structs_room (found label fields) (found_room label fields all))) (objects_room labels fields all)

-- ---- how many objects there are

nodes_few : (nodes : PlainNodes) → length (nodes_in nodes) ≤ nodes_count nodes
nodes_few NoNode = omega arith
nodes_few (MoreNodes (Struct kind fields) rest) = let few = nodes_few rest in omega (arith, few)

leaf_few : (leaf : PlainLeaf) → length (structs_in (Some leaf)) ≤ leaf_count leaf
leaf_few (Holds scalar) = omega arith
leaf_few (Child node) = omega arith
leaf_few (Children nodes) = nodes_few nodes

found_few : (label : List ℕ) (fields : PlainFields) → length (structs_in (found label (fields_in fields))) ≤ fields_count fields
found_few label NoField = omega arith
found_few label (MoreFields own holds rest) = chosen (bytes_eq label own) (found_few label rest)
  where
    chosen : (b : Bool) → length (structs_in (found label (fields_in rest))) ≤ fields_count rest
        → length (structs_in (if b then Some holds else found label (fields_in rest))) ≤ leaf_count holds + fields_count rest
    chosen true behind = let few = leaf_few holds in omega (arith, few)
    chosen false behind = omega (arith, behind)

under_few : (labels : List (List ℕ)) (fields : PlainFields) → length (objects_under labels (fields_in fields)) ≤ length labels * fields_count fields
under_few [] fields = omega arith
under_few (label ∷ labels) fields =
    let here = structs_in (found label (fields_in fields)) in
    let one : length (map object_of here) ≤ fields_count fields = (let few = found_few label fields in omega (arith, few, length-map here object_of)) in
    let rest = under_few labels fields in
    omega (arith, one, rest, length-append (map object_of here) (objects_under labels (fields_in fields)))

objects_few : (top : PlainNode) → length (objects_of top) ≤ 5 * node_count top
objects_few (Struct kind fields) = let few = under_few list_labels fields in omega (arith, few)

area_kept : TreesAreFew → (bytes : List ℕ) (gff : PlainGff) → AreStateBytes bytes → length bytes ≤ file_limit → Stands bytes gff → AreaIsKept (area_of gff)
area_kept trees bytes gff are small stands = record {
  few = (
      let some = objects_few gff.top in
      let count = trees bytes gff stands in
      let structs = structs_few bytes stands.opens in
      omega (arith, some, count, structs, small)
      );
  objects = objects_room list_labels (fields_of gff.top) (fields_room gff.top (top_room bytes are 64 0 gff.top stands.uses stands.top));
}

-- ---- a plan's events

abbrev PlannedIsKept : Planned → Type 0
PlannedIsKept p = IsNumber 4 p.object × IsText p.script

field_script : (area : PlainArea) (label : List ℕ) (o : ℕ) → AreaIsKept area → AreStateBytes (script_at area label o)
field_script area label zero k = tt
field_script area label (suc o) k = (named_text label (object area (suc o)).scripts (object_kept area (suc o) k).scripts).1

line_kept : (area : PlainArea) (line : Line) → AreaIsKept area → IsLine line → PlannedIsKept (begun_by area line)
line_kept area (Event due nth label tag) k is = (tag_number area tag (pos nth) k, cut_text _ (field_script area label (by_tag area tag (pos nth)) k))
line_kept area (Start due nth name tag) k is = (tag_number area tag (pos nth) k, script_name_text name is.2)
line_kept area (Free due name) k is = (omega arith, script_name_text name is.1)

lines_kept : (area : PlainArea) (lines : List Line) → AreaIsKept area → AllByRecursion IsLine lines → AllByRecursion PlannedIsKept (map (begun_by area) lines)
lines_kept area lines k all =
    all_mapped PlannedIsKept (begun_by area) lines (all_weaker IsLine (λ (line : Line). PlannedIsKept (begun_by area line)) (λ line is. line_kept area line k is) lines all)

idle_kept : (next n : ℕ) → AllByRecursion (ThingsAreKept next) (replicate n idle)
idle_kept next zero = tt
idle_kept next (suc n) = (record { effects = tt; items = tt }, idle_kept next n)

still_kept : (area : PlainArea) (random : List ℕ) (version : ℕ) → AreaIsKept area → AllByRecursion (IsNumber 4) random → WorldIsKept (still area random version)
still_kept area random version k small = record { random = small; area = k; things = idle_kept 0 (length area.objects); agenda = tt; user = zero_fits }

planned_kept : (events : List Planned) (w : World Saved) → AllByRecursion PlannedIsKept events → WorldIsKept w → WorldIsKept (fold with_planned w events)
planned_kept [] w all k = k
planned_kept (p ∷ events) w all k =
    planned_kept events (with_planned w p) all.1 (post_kept p.due (work.Event p.object p.script (pos 0)) w all.0.0 (all.0.1, zero_fits) k)

randoms_kept : (random : List ℕ) → AreRandoms random → AllByRecursion (IsNumber 4) random
randoms_kept random all = all_weaker (λ (n : ℕ). n ≤ 4294967295) (IsNumber 4) (λ n most. omega (arith, most)) random all

pub plan_worlds_are_kept : TreesAreFew → PlanWorldsAreKept
plan_worlds_are_kept trees bytes gff plan are small stands is =
    let area = area_kept trees bytes gff are small stands in
    planned_kept (map (begun_by (area_of gff)) plan.events) (still (area_of gff) plan.random plan.version) (lines_kept (area_of gff) plan.events area is.events)
    (still_kept (area_of gff) plan.random plan.version area (randoms_kept plan.random is.randoms))
