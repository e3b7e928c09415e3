-- What the calls that read a tree answer.
use Rattle.std.specs.Prelude.{◌≡◌, List, [], ℕ, Option, None, Some, Result, Ok, Err}
use Rattle.std.specs.Borrow.{Bor}
use Rattle.std.specs.Option.{option_map}
use Rattle.gff_tree.specs.declared.tree.Leaf.{Leaf}
use Rattle.gff_tree.specs.Tree.{PlainLeaf, plain_leaf}
use Rattle.gff_tree.specs.Count.{leaf_count}
use Rattle.area_rules.specs.declared.fault.AreaFault.{AreaFault}
use Rattle.area_tree.specs.declared.object.Told.{Told}
use Rattle.area_tree.specs.declared.object.Told.TheVariants as told
use Rattle.local_variables.specs.Variables.{variable_of}
use Rattle.area_rules.specs.Objects.{Entry, Broken, Unread, Tells}
use Rattle.area_rules.specs.Broken.{Place, IsFirst}

-- what is read, where no place is broken, else the first broken place, or want of memory
abbrev pub Reads : {X : Type 0} → Result X AreaFault → List Place → X → Type 0
Reads (Ok x) places read = (places ≡ []) × (x ≡ read)
Reads (Err e) places read = IsFirst e places

abbrev pub leaf_in : Option (Bor Leaf) → Option PlainLeaf
leaf_in leaf = option_map (λ l. plain_leaf l.now) leaf

-- the structs that stand in a field, where it is there
abbrev pub leaves_count : Option PlainLeaf → ℕ
leaves_count None = 0
leaves_count (Some leaf) = leaf_count leaf

abbrev pub entry_told : Told → Entry
entry_told told.Broken = Broken
entry_told told.Unread = Unread
entry_told (told.Tells v) = Tells (variable_of v)
