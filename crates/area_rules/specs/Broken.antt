-- The places at which a tree breaks the rules of an area, in order.
use Rattle.std.specs.Prelude.{◌≡◌, ℕ, ◌+◌, if◌then◌else◌, List, [], ◌∷◌, ◌++◌, codes, Option, None, Some}
use Rattle.std.specs.List.{list_any}
use Rattle.gff_tree.specs.Tree.{PlainNode, PlainLeaf, PlainField, Holds, Child, Children, Str, Res, nodes_in}
use Rattle.gff_tree.specs.Fields.{fields_of, found}
use Rattle.area_rules.specs.declared.fault.AreaFault.{AreaFault}
use Rattle.area_rules.specs.declared.fault.AreaFault.TheVariants as fault
use Rattle.local_variables.specs.Variables.{Variable, same_variable}
use Rattle.area_rules.specs.Objects.{Entry, Broken, Unread, Tells, entry_of, list_labels}

-- A place: a list by its number from 0, a member and an entry by theirs from 1. A 0 in place of one
-- of these two says that the fault lies above: in the list itself, or in the member's tag or the
-- table as a whole.
pub record Place : Type 0 where
  pub list : ℕ
  pub member : ℕ
  pub entry : ℕ

abbrev pub at_list : ℕ → Place
at_list n = record { list = n; member = 0; entry = 0 }

abbrev pub at_member : ℕ → ℕ → Place
at_member n m = record { list = n; member = m; entry = 0 }

abbrev pub at_entry : ℕ → ℕ → ℕ → Place
at_entry n m e = record { list = n; member = m; entry = e }

-- an entry is broken where it has no form, or where an earlier one has its type and name
abbrev pub entry_places : Place → List Variable → Entry → List Place
entry_places place earlier Broken = place ∷ []
entry_places place earlier Unread = []
entry_places place earlier (Tells v) = if list_any (same_variable v) earlier then place ∷ [] else []

-- the variables of the earlier entries, and of this one
abbrev pub with_later : List Variable → Entry → List Variable
with_later earlier Broken = earlier
with_later earlier Unread = earlier
with_later earlier (Tells v) = earlier ++ v ∷ []

-- the entries of a table from number e on, behind entries of these variables
abbrev pub entries_places : ℕ → ℕ → ℕ → List Variable → List PlainNode → List Place
entries_places n m e earlier [] = []
entries_places n m e earlier (entry ∷ entries) =
    entry_places (at_entry n m e) earlier (entry_of entry)
    ++ entries_places n m (e + 1) (with_later earlier (entry_of entry)) entries

-- a tag is a string or the name of a resource
abbrev pub tag_places : ℕ → ℕ → Option PlainLeaf → List Place
tag_places n m None = []
tag_places n m (Some (Holds (Str tag))) = []
tag_places n m (Some (Holds (Res tag))) = []
tag_places n m _ = at_member n m ∷ []

-- a table of variables is a list
abbrev pub table_places : ℕ → ℕ → Option PlainLeaf → List Place
table_places n m None = []
table_places n m (Some (Holds scalar)) = at_member n m ∷ []
table_places n m (Some (Child node)) = at_member n m ∷ []
table_places n m (Some (Children entries)) = entries_places n m 1 [] (nodes_in entries)

abbrev pub member_places : ℕ → ℕ → PlainNode → List Place
member_places n m node =
    tag_places n m (found (codes "Tag") (fields_of node))
    ++ table_places n m (found (codes "VarTable") (fields_of node))

-- the members of a list from number m on
abbrev pub members_places : ℕ → ℕ → List PlainNode → List Place
members_places n m [] = []
members_places n m (node ∷ nodes) = member_places n m node ++ members_places n (m + 1) nodes

-- a list of objects is a list
abbrev pub list_places : ℕ → Option PlainLeaf → List Place
list_places n None = []
list_places n (Some (Holds scalar)) = at_list n ∷ []
list_places n (Some (Child node)) = at_list n ∷ []
list_places n (Some (Children nodes)) = members_places n 1 (nodes_in nodes)

-- the lists of these labels from number n on
abbrev pub lists_places : ℕ → List (List ℕ) → List PlainField → List Place
lists_places n [] fields = []
lists_places n (label ∷ labels) fields = list_places n (found label fields)
    ++ lists_places (n + 1) labels fields

abbrev pub broken_places : PlainNode → List Place
broken_places top = lists_places 0 list_labels (fields_of top)

-- a refusal names the first of these places, or is want of memory
abbrev pub IsFirst : AreaFault → List Place → Type 0
IsFirst (fault.Shape n m e) places = (rest : List Place) × (places ≡ at_entry n m e ∷ rest)
IsFirst fault.NoMemory places = Unit {0}
