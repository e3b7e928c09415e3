-- What is promised of typing: a unit is typed in one way or at fault, never both, and the functions
-- over the tree find which.
use Rattle.std.specs.Prelude.{◌≡◌, ◌⊎◌, ◌↔◌, List, None, Some}
use Rattle.nss_tree.specs.Source.{SourceItem, SourceTree}
use Rattle.nwq_value.specs.Engine.{EngineTable}
use Rattle.typing_rules.specs.declared.fault.Fault.{Fault}
use Rattle.typing_rules.specs.Typed.{TypedItem, TypedUnit}
use Rattle.typing_rules.specs.Nodes.{Among, kept, IsLeast}
use Rattle.typing_rules.specs.Sight.{Head, Sight}
use Rattle.typing_rules.specs.Verdicts.{item_fine, unit_typed, unit_faults}
use Rattle.typing_rules.specs.Meaning.{TypesItem, TypesUnit, FaultInUnit}

-- a unit has one typed tree at most
abbrev pub OneTyped : Type 0
OneTyped = (table : EngineTable) (u : SourceTree) (s t : TypedUnit) → TypesUnit table u s
    → TypesUnit table u t → s ≡ t

-- no node of a typed unit is at fault
abbrev pub TypedIsFaultless : Type 0
TypedIsFaultless = (table : EngineTable) (u : SourceTree) (t : TypedUnit) (f : Fault)
    → TypesUnit table u t → FaultInUnit table u f → ⊥

-- a unit of which no node is at fault is typed
abbrev pub FaultlessIsTyped : Type 0
FaultlessIsTyped = (table : EngineTable) (u : SourceTree)
    → ((f : Fault) → FaultInUnit table u f → ⊥) → (t : TypedUnit) × TypesUnit table u t

-- of two least faults each has the other's token
abbrev pub OneToken : Type 0
OneToken = (table : EngineTable) (u : SourceTree) (f g : Fault) → IsLeast (FaultInUnit table u) f
    → IsLeast (FaultInUnit table u) g → f.token ≡ g.token

-- each unit is typed, or has a node at fault of least token
abbrev pub SomeAnswer : Type 0
SomeAnswer = (table : EngineTable) (u : SourceTree)
    → ((t : TypedUnit) × TypesUnit table u t) ⊎ ((f : Fault) × IsLeast (FaultInUnit table u) f)

-- ---- the functions over the tree

-- the typed tree is what the rules give
abbrev pub VerdictsAreRight : Type 0
VerdictsAreRight = (table : EngineTable) (u : SourceTree) (t : TypedUnit)
    → (unit_typed table u ≡ Some t) ↔ TypesUnit table u t

-- so is each item of it, whatever stands in its sight
abbrev pub ItemsAreRight : Type 0
ItemsAreRight = (hs : List Head) (c : Sight) (i : SourceItem) (t : TypedItem)
    → (item_fine hs c i ≡ Some t) ↔ TypesItem hs c i t

-- the list of faults has exactly the nodes at fault
abbrev pub FaultsAreListed : Type 0
FaultsAreListed = (table : EngineTable) (u : SourceTree) (f : Fault)
    → Among f (unit_faults table u) ↔ FaultInUnit table u f

-- the one that is kept of them is a least one
abbrev pub LeastIsKept : Type 0
LeastIsKept = (table : EngineTable) (u : SourceTree) (f : Fault)
    → kept None (unit_faults table u) ≡ Some f → IsLeast (FaultInUnit table u) f

-- where none is kept, there is a typed tree
abbrev pub NoneKeptIsTyped : Type 0
NoneKeptIsTyped = (table : EngineTable) (u : SourceTree) → kept None (unit_faults table u) ≡ None
    → (t : TypedUnit) × (unit_typed table u ≡ Some t)
