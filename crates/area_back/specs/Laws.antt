-- Laws of the way back.
use Rattle.std.specs.Prelude.{◌≡◌, ◌<◌, ℕ, zero, suc, true, List, [], ◌∷◌, length, codes, Option, None, Some, IsTrue}
use Rattle.std.specs.List.{list_any, slice_get}
use Rattle.gff_tree.specs.Tree.{PlainNode, PlainLeaf, PlainField, Holds, Child, Children, nodes_in, is_sound}
use Rattle.gff_tree.specs.Whole.{PlainGff}
use Rattle.gff_tree.specs.Fields.{kind_of, fields_of, node_from, list_from, found, replaced}
use Rattle.local_variables.specs.Variables.{Variable, same_variable, matching, put}
use Rattle.area_rules.specs.Objects.{AreaObject, Tells, entry_of, structs_in, object_of, objects_of}
use Rattle.area_rules.specs.Broken.{broken_places}
use Rattle.area_back.specs.Back.{value_of, back, tree_back}
use Rattle.area_rules.specs.Area.{PlainArea, object_at, variables_changed_at, IsArea}

-- The area that nobody changed goes back as the tree it was read from.
abbrev pub UnchangedGoesBack : Type 0
UnchangedGoesBack = (tree : PlainGff) → broken_places tree.top ≡ []
    → back tree (objects_of tree.top) ≡ tree

-- Objects are alike that have one tag, the same names of resources, and of each type and name the
-- same variable.
pub record AreAlike (object other : AreaObject) : Type 0 where
  pub tag : object.tag ≡ other.tag
  pub scripts : object.scripts ≡ other.scripts
  pub vars : (v : Variable) → matching v object.vars ≡ matching v other.vars

abbrev pub AllAlike : List AreaObject → List AreaObject → Type 0
AllAlike [] [] = Unit {0}
AllAlike [] (other ∷ others) = ⊥
AllAlike (object ∷ objects) [] = ⊥
AllAlike (object ∷ objects) (other ∷ others) = AreAlike object other × AllAlike objects others

-- A tree that goes back is sound, breaks no rule, and tells objects alike.
pub record ReadsBack (area : PlainArea) : Type 0 where
  pub sound : IsTrue (is_sound (tree_back area).top)
  pub whole : broken_places (tree_back area).top ≡ []
  pub alike : AllAlike (objects_of (tree_back area).top) area.objects

abbrev pub BackIsRead : Type 0
BackIsRead = (area : PlainArea) → IsArea area → ReadsBack area

-- Structs where the one at a place is changed.
abbrev pub changed_node : ℕ → (PlainNode → PlainNode) → List PlainNode → List PlainNode
changed_node i change [] = []
changed_node zero change (node ∷ nodes) = change node ∷ nodes
changed_node (suc i) change (node ∷ nodes) = node ∷ changed_node i change nodes

-- A struct where one struct of a list field is changed.
abbrev pub changed_leaf : ℕ → (PlainNode → PlainNode) → PlainLeaf → PlainLeaf
changed_leaf i change (Holds scalar) = Holds scalar
changed_leaf i change (Child node) = Child node
changed_leaf i change (Children nodes) = list_from (changed_node i change (nodes_in nodes))

abbrev pub changed_list : List ℕ → ℕ → (PlainNode → PlainNode) → Option PlainLeaf → List PlainField
    → List PlainField
changed_list label i change None fields = fields
changed_list label i change (Some leaf) fields = replaced label (changed_leaf i change leaf) fields

abbrev pub changed_in : List ℕ → ℕ → (PlainNode → PlainNode) → PlainNode → PlainNode
changed_in label i change node = node_from (kind_of node)
    (changed_list label i change (found label (fields_of node)) (fields_of node))

-- A struct with another value in its field Value.
abbrev pub with_new_value : Variable → PlainNode → PlainNode
with_new_value v node = node_from (kind_of node)
    (replaced (codes "Value") (value_of v) (fields_of node))

-- A table's entry that tells the variable of one type and name, and where it stands.
pub record EntryFor (v : Variable) (table : List PlainNode) : Type 0 where
  pub place : ℕ
  pub entry : PlainNode
  pub told : Variable
  pub at : slice_get table place ≡ Some entry
  pub tells : entry_of entry ≡ Tells told
  pub same : same_variable v told ≡ true

-- A member of a list that is an object, and where it stands.
pub record MemberFor (object : AreaObject) (top : PlainNode) : Type 0 where
  pub label : List ℕ
  pub place : ℕ
  pub member : PlainNode
  pub at : slice_get (structs_in (found label (fields_of top))) place ≡ Some member
  pub is : object_of member ≡ object

abbrev pub variable_table : PlainNode → List PlainNode
variable_table member = structs_in (found (codes "VarTable") (fields_of member))

-- Where a variable that an object has is given another value, that value alone differs in the tree.
pub record OneValueDiffers (tree : PlainGff) (i : ℕ) (v : Variable) : Type 0 where
  pub member : MemberFor (object_at (objects_of tree.top) i) tree.top
  pub entry : EntryFor v (variable_table member.member)
  pub is :
      back tree (variables_changed_at i (put v) (objects_of tree.top))
      ≡ record tree {
        top = changed_in member.label member.place
            (changed_in (codes "VarTable") entry.place (with_new_value v)) tree.top;
      }

abbrev pub PutChangesOneValue : Type 0
PutChangesOneValue = (tree : PlainGff) (i : ℕ) (v : Variable) → broken_places tree.top ≡ []
    → i < length (objects_of tree.top) →
    list_any (same_variable v) (object_at (objects_of tree.top) i).vars ≡ true
    → OneValueDiffers tree i v
