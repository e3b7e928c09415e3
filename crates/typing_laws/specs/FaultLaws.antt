-- A unit that is spelled by tokens has one least fault.
use Rattle.std.specs.Prelude.{◌≡◌, ◌↔◌, List, None, Some}
use Rattle.nwq_value.specs.Engine.{EngineTable}
use Rattle.nss_tree.specs.Source.{SourceTree}
use Rattle.nss_symbols.specs.Symbols.{Symbol}
use Rattle.nss_parser.specs.Sentence.{Parses}
use Rattle.typing_rules.specs.declared.fault.Fault.{Fault}
use Rattle.typing_rules.specs.Nodes.{kept, IsLeast}
use Rattle.typing_rules.specs.Verdicts.{unit_faults}
use Rattle.typing_rules.specs.Meaning.{FaultInUnit}

-- faults at one token are one fault
abbrev pub OneFaultAtEachToken : Type 0
OneFaultAtEachToken = (table : EngineTable) (tokens : List Symbol) (u : SourceTree) (f g : Fault)
    → Parses tokens u → FaultInUnit table u f → FaultInUnit table u g → f.token ≡ g.token → f ≡ g

-- so of two least faults each is the other, with its kind
abbrev pub OneLeastFault : Type 0
OneLeastFault = (table : EngineTable) (tokens : List Symbol) (u : SourceTree) (f g : Fault)
    → Parses tokens u → IsLeast (FaultInUnit table u) f → IsLeast (FaultInUnit table u) g → f ≡ g

-- and it is the one that is kept of the list of all faults
abbrev pub LeastIsTheKept : Type 0
LeastIsTheKept = (table : EngineTable) (tokens : List Symbol) (u : SourceTree) (f : Fault)
    → Parses tokens u → (kept None (unit_faults table u) ≡ Some f) ↔ IsLeast (FaultInUnit table u) f
