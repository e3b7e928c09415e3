-- Laws of what a tree tells.
use Rattle.std.specs.Prelude.{◌≡◌, ℕ, [], Option}
use Rattle.std.specs.List.{IsDistinct}
use Rattle.gff_tree.specs.Tree.{PlainNode, PlainLeaf}
use Rattle.local_variables.specs.Variables.{same_variable}
use Rattle.area_rules.specs.Objects.{structs_in, variables_in, objects_of}
use Rattle.area_rules.specs.Broken.{table_places, broken_places}
use Rattle.area_rules.specs.Area.{HaveDistinct}

-- A table that breaks no rule tells no two variables of one type and name.
abbrev pub TablesAreDistinct : Type 0
TablesAreDistinct = (n m : ℕ) (table : Option PlainLeaf) → table_places n m table ≡ []
    → IsDistinct same_variable (variables_in (structs_in table))

-- Nor has an object of a tree that breaks none.
abbrev pub ObjectsAreDistinct : Type 0
ObjectsAreDistinct = (top : PlainNode) → broken_places top ≡ [] → HaveDistinct (objects_of top)
