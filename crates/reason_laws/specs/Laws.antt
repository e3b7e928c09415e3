-- Each fault whose rule joins counts, places or types has its reason.
use Rattle.std.specs.Prelude.{◌≡◌, Bool, true, false, List, Option, Some}
use Rattle.nwq_value.specs.Engine.{EngineTable}
use Rattle.nss_tree.specs.Source.{SourceTree}
use Rattle.nss_symbols.specs.Symbols.{Symbol}
use Rattle.nss_parser.specs.Sentence.{Parses}
use Rattle.typing_rules.specs.declared.fault.Fault.{Fault}
use Rattle.typing_rules.specs.declared.fault.FaultKind.{FaultKind}
use Rattle.typing_rules.specs.declared.fault.FaultKind.TheVariants as fault
use Rattle.typing_rules.specs.Meaning.{FaultInUnit}
use Rattle.expression_reasons.specs.declared.reason.Reason.{Reason}
use Rattle.expression_reasons.specs.declared.reason.Reason.TheVariants.{Operands, Operand, NoPlace, Uncallable, NoFunction, Arguments, Barred, Argument, NoMember, Condition, Returned, Taken, Value, Default, Cells, Again, Misplaced, Label, NoDefault, NoVariable, NoConstant, LeftOut, NoStruct}
use Rattle.nss_reasons.specs.Reasons.{reason_at}

-- the kind of fault whose row a reason speaks of
abbrev pub kind_of : Reason → FaultKind
kind_of (Operands s t) = fault.Mismatch
kind_of (Operand t) = fault.Mismatch
kind_of NoPlace = fault.NotPlace
kind_of Uncallable = fault.RefusedType
kind_of NoFunction = fault.Unknown
kind_of (Arguments n least most) = fault.Arity
kind_of Barred = fault.NotConst
kind_of (Argument n s t) = fault.Mismatch
kind_of (NoMember t) = fault.Unknown
kind_of (Condition t) = fault.Mismatch
kind_of (Returned s t) = fault.Mismatch
kind_of Taken = fault.Redeclared
kind_of (Value s t) = fault.Mismatch
kind_of (Default s t) = fault.Mismatch
kind_of Cells = fault.Cells
kind_of (Again v) = fault.Redeclared
kind_of Misplaced = fault.Outside
kind_of (Label t) = fault.Mismatch
kind_of NoDefault = fault.Arity
kind_of (NoVariable t) = fault.Mismatch
kind_of (NoConstant t) = fault.Mismatch
kind_of LeftOut = fault.RefusedType
kind_of NoStruct = fault.Unknown

-- the kinds whose rules join counts, places or types, wherever they come
abbrev pub is_joined : FaultKind → Bool
is_joined fault.Arity = true
is_joined fault.NotPlace = true
is_joined fault.Mismatch = true
is_joined _ = false

-- there is a reason, of this kind
pub record Tells (why : Option Reason) (k : FaultKind) : Type 0 where
  pub reason : Reason
  pub is : why ≡ Some reason
  pub kind : kind_of reason ≡ k

-- a node of a unit of tokens that is at fault so has a reason of its kind at its token
abbrev pub EachFaultHasItsReason : Type 0
EachFaultHasItsReason = (table : EngineTable) (tokens : List Symbol) (u : SourceTree) (f : Fault)
    → Parses tokens u → FaultInUnit table u f → is_joined f.kind ≡ true
    → Tells (reason_at table u f.token) f.kind
