-- The objects of an area: what its GFF tree says of each.
use Rattle.std.specs.Prelude.{ℕ, ℤ, ◌==◌, if◌then◌else◌, List, [], ◌∷◌, ◌++◌, map, codes, Option, None, Some}
use Rattle.gff_tree.specs.Tree.{PlainNode, PlainLeaf, PlainField, Holds, Child, Children, Dword, Int, Str, Res, nodes_in}
use Rattle.gff_tree.specs.Fields.{fields_of, found}
use Rattle.local_variables.specs.Variables.{Variable, IntVar, TextVar}

-- a CResRef field of an object: its label, and the name of the resource
pub record Script : Type 0 where
  pub label : List ℕ
  pub name : List ℕ

pub record AreaObject : Type 0 where
  pub tag : List ℕ
  pub vars : List Variable
  pub scripts : List Script

-- the lists of the top struct whose members are the objects, in the order of their numbers
abbrev pub list_labels : List (List ℕ)
list_labels = codes "Creature List" ∷ codes "Door List" ∷ codes "Placeable List" ∷ codes "TriggerList" ∷ codes "WaypointList" ∷ []

-- the structs of a list field; an absent one has none
abbrev pub structs_in : Option PlainLeaf → List PlainNode
structs_in None = []
structs_in (Some (Holds scalar)) = []
structs_in (Some (Child node)) = []
structs_in (Some (Children nodes)) = nodes_in nodes

-- an entry of a table of variables: it breaks the rules, or its type isn't read, or it is a
-- variable
pub data Entry : Type 0 where
  Broken : Entry
  Unread : Entry
  Tells : Variable → Entry

-- the number of a DWORD field, the number of an INT field, and the text of a CExoString field
abbrev pub dword_in : Option PlainLeaf → Option ℕ
dword_in (Some (Holds (Dword n))) = Some n
dword_in _ = None

abbrev pub int_in : Option PlainLeaf → Option ℤ
int_in (Some (Holds (Int n))) = Some n
int_in _ = None

abbrev pub string_in : Option PlainLeaf → Option (List ℕ)
string_in (Some (Holds (Str text))) = Some text
string_in _ = None

-- an int has a name and a number, a string a name and a text
abbrev pub int_entry : Option (List ℕ) → Option ℤ → Entry
int_entry None n = Broken
int_entry (Some name) None = Broken
int_entry (Some name) (Some n) = Tells (IntVar name n)

abbrev pub text_entry : Option (List ℕ) → Option (List ℕ) → Entry
text_entry None text = Broken
text_entry (Some name) None = Broken
text_entry (Some name) (Some text) = Tells (TextVar name text)

-- an entry by its type, name and value: type 1 is an int, type 3 a string, and of another type
-- nothing else is looked at
abbrev pub typed_entry : Option ℕ → Option PlainLeaf → Option PlainLeaf → Entry
typed_entry None name value = Broken
typed_entry (Some type) name value =
    if type == 1 then int_entry (string_in name) (int_in value)
    else (if type == 3 then text_entry (string_in name) (string_in value) else Unread)

abbrev pub entry_of : PlainNode → Entry
entry_of node =
    typed_entry (dword_in (found (codes "Type") (fields_of node)))
    (found (codes "Name") (fields_of node)) (found (codes "Value") (fields_of node))

-- the variables of a table's entries, in order
abbrev pub with_entry : Entry → List Variable → List Variable
with_entry Broken vars = vars
with_entry Unread vars = vars
with_entry (Tells v) vars = v ∷ vars

abbrev pub variables_in : List PlainNode → List Variable
variables_in [] = []
variables_in (entry ∷ entries) = with_entry (entry_of entry) (variables_in entries)

-- a tag is a string or the name of a resource; an absent one is empty
abbrev pub tag_in : Option PlainLeaf → List ℕ
tag_in (Some (Holds (Str tag))) = tag
tag_in (Some (Holds (Res tag))) = tag
tag_in _ = []

-- the CResRef fields, in order
abbrev pub with_script : List ℕ → PlainLeaf → List Script → List Script
with_script label (Holds (Res name)) scripts = record { label = label; name = name } ∷ scripts
with_script label _ scripts = scripts

abbrev pub scripts_in : List PlainField → List Script
scripts_in [] = []
scripts_in (field ∷ fields) = with_script field.label field.leaf (scripts_in fields)

abbrev pub object_of : PlainNode → AreaObject
object_of node = record {
  tag = tag_in (found (codes "Tag") (fields_of node));
  vars = variables_in (structs_in (found (codes "VarTable") (fields_of node)));
  scripts = scripts_in (fields_of node);
}

-- the objects of the lists of these labels, one list after the other
abbrev pub objects_under : List (List ℕ) → List PlainField → List AreaObject
objects_under [] fields = []
objects_under (label ∷ labels) fields = map object_of (structs_in (found label fields))
    ++ objects_under labels fields

abbrev pub objects_of : PlainNode → List AreaObject
objects_of top = objects_under list_labels (fields_of top)
