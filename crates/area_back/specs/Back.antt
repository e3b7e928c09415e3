-- The way back: the tree that was read, with the variables that the objects have now.
use Rattle.std.specs.Prelude.{ℕ, Bool, true, not, List, [], ◌∷◌, ◌++◌, map, filter, length, take, drop, codes, Option, None, Some}
use Rattle.std.specs.List.{list_any}
use Rattle.gff_tree.specs.Tree.{PlainNode, PlainLeaf, PlainField, Holds, Child, Children, Dword, Int, Str, nodes_in}
use Rattle.gff_tree.specs.Whole.{PlainGff}
use Rattle.gff_tree.specs.Fields.{kind_of, fields_of, node_from, list_from, found, replaced, appended}
use Rattle.local_variables.specs.Variables.{Variable, IntVar, TextVar, same_variable, matching}
use Rattle.area_rules.specs.Objects.{AreaObject, Entry, Broken, Unread, Tells, entry_of, variables_in, structs_in, list_labels}
use Rattle.area_rules.specs.Area.{PlainArea}

abbrev pub name_of : Variable → List ℕ
name_of (IntVar name n) = name
name_of (TextVar name text) = name

-- the number of a variable's type in a table
abbrev pub type_of : Variable → ℕ
type_of (IntVar name n) = 1
type_of (TextVar name text) = 3

abbrev pub value_of : Variable → PlainLeaf
value_of (IntVar name n) = Holds (Int n)
value_of (TextVar name text) = Holds (Str text)

-- the entry of a variable that the table didn't have
abbrev pub new_entry : Variable → PlainNode
new_entry v = node_from 0 (
    record { label = codes "Name"; leaf = Holds (Str (name_of v)) }
    ∷ record { label = codes "Type"; leaf = Holds (Dword (type_of v)) }
    ∷ record { label = codes "Value"; leaf = value_of v } ∷ []
    )

-- an entry stays, unless it is that of a variable that the object no longer has
abbrev pub stays : List Variable → Entry → Bool
stays vars Broken = true
stays vars Unread = true
stays vars (Tells v) = list_any (same_variable v) vars

abbrev pub is_kept : List Variable → PlainNode → Bool
is_kept vars entry = stays vars (entry_of entry)

-- the variable that an entry of its type and name tells
abbrev pub variable_for : List Variable → Entry → Option Variable
variable_for vars Broken = None
variable_for vars Unread = None
variable_for vars (Tells v) = matching v vars

abbrev pub with_value : Option Variable → PlainNode → PlainNode
with_value None entry = entry
with_value (Some v) entry = node_from (kind_of entry)
    (replaced (codes "Value") (value_of v) (fields_of entry))

-- an entry with the value that its variable has now
abbrev pub valued : List Variable → PlainNode → PlainNode
valued vars entry = with_value (variable_for vars (entry_of entry)) entry

abbrev pub entries_back : List Variable → List PlainNode → List PlainNode
entries_back vars entries = map (valued vars) (filter (is_kept vars) entries)

-- the variables that no entry tells
abbrev pub others : List Variable → List PlainNode → List Variable
others vars entries = filter (λ v. not (list_any (same_variable v) (variables_in entries))) vars

abbrev pub table_back : List Variable → List PlainNode → List PlainNode
table_back vars entries = entries_back vars entries ++ map new_entry (others vars entries)

-- a table on the way back; what is no list stays
abbrev pub leaf_back : List Variable → PlainLeaf → PlainLeaf
leaf_back vars (Holds scalar) = Holds scalar
leaf_back vars (Child node) = Child node
leaf_back vars (Children entries) = list_from (table_back vars (nodes_in entries))

-- an object without a table gets one as its last field exactly where it has variables
abbrev pub fields_back : List Variable → Option PlainLeaf → List PlainField → List PlainField
fields_back [] None fields = fields
fields_back (v ∷ vars) None fields = appended (codes "VarTable")
    (list_from (table_back (v ∷ vars) [])) fields
fields_back vars (Some table) fields = replaced (codes "VarTable") (leaf_back vars table) fields

abbrev pub member_back : List Variable → PlainNode → PlainNode
member_back vars node = node_from (kind_of node)
    (fields_back vars (found (codes "VarTable") (fields_of node)) (fields_of node))

-- each member with the variables of its object
abbrev pub members_back : List AreaObject → List PlainNode → List PlainNode
members_back [] nodes = nodes
members_back (object ∷ objects) [] = []
members_back (object ∷ objects)
    (node ∷ nodes) = member_back object.vars node ∷ members_back objects nodes

-- a list of objects on the way back; what is no list stays
abbrev pub objects_back : List AreaObject → PlainLeaf → PlainLeaf
objects_back objects (Holds scalar) = Holds scalar
objects_back objects (Child node) = Child node
objects_back objects (Children nodes) = list_from (members_back objects (nodes_in nodes))

abbrev pub list_back : List ℕ → List AreaObject → Option PlainLeaf → List PlainField
    → List PlainField
list_back label objects None fields = fields
list_back label objects (Some leaf) fields = replaced label (objects_back objects leaf) fields

-- the lists of these labels, whose members' objects stand one list after the other
abbrev pub lists_back : List (List ℕ) → List AreaObject → List PlainField → List PlainField
lists_back [] objects fields = fields
lists_back (label ∷ labels) objects fields =
    let members = length (structs_in (found label fields)) in
    lists_back labels (drop members objects)
    (list_back label (take members objects) (found label fields) fields)

abbrev pub back : PlainGff → List AreaObject → PlainGff
back tree objects = record tree {
  top = node_from (kind_of tree.top)
      (lists_back list_labels objects (fields_of tree.top));
}

abbrev pub tree_back : PlainArea → PlainGff
tree_back area = back area.tree area.objects
