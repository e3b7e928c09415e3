-- What code makes of variables on the way back.
use Rattle.std.specs.Prelude.{List}
use Rattle.gff_tree.specs.Tree.{PlainLeaf, Holds, Int, Str}
use Rattle.local_variables.specs.Variables.{Variable, IntVar, TextVar, int_named, text_named, put}
use Rattle.area_rules.specs.Objects.{Entry, Broken, Unread, Tells}

-- what the variable of a type and name holds among these, as a field
abbrev pub current : Variable → List Variable → PlainLeaf
current (IntVar name n) vars = Holds (Int (int_named name vars))
current (TextVar name text) vars = Holds (Str (text_named name vars))

-- the variables with that of an entry
abbrev pub with_told : List Variable → Entry → List Variable
with_told told Broken = told
with_told told Unread = told
with_told told (Tells v) = put v told
