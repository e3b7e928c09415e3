-- A script that is typed under a header.
use Rattle.std.specs.Prelude.{◌≡◌, None, Some, Result, Ok, Err}
use Rattle.nwq_value.specs.Engine.{EngineTable}
use Rattle.nwq_outside.specs.Outside.{Contents}
use Rattle.nss_tree.specs.Source.{SourceTree}
use Rattle.nss_include.specs.View.{Gathered}
use Rattle.typing_rules.specs.declared.fault.Fault.{Fault}
use Rattle.typing_rules.specs.declared.fault.FaultKind.{FaultKind}
use Rattle.typing_rules.specs.declared.fault.FaultKind.TheVariants as kind
use Rattle.typing_rules.specs.Nodes.{kept}
use Rattle.typing_rules.specs.UnitReading.{typed_unit}
use Rattle.typing_rules.specs.Typed.{TypedUnit}
use Rattle.typing_rules.specs.Meaning.{TypesUnit}
use Rattle.typing_rules.specs.Verdicts.{unit_faults}
use Rattle.command_work.specs.declared.cause.Cause.{Cause}
use Rattle.command_work.specs.declared.cause.Cause.TheVariants as cause
use Rattle.command_work.specs.declared.status.Status.{Status}
use Rattle.command_work.specs.Work.{Work, Gives, Refused, Finds}
use Rattle.command_sources.specs.Units.{PlainScript, at_token}
use Rattle.command_compile.specs.declared.script.TypedScript.{TypedScript}

-- the script of a unit whose tree is this
abbrev pub script_of : Gathered → SourceTree → PlainScript
script_of unit tree = record { tokens = unit.tokens; files = unit.files; tree = tree }

abbrev pub cause_of : FaultKind → Cause
cause_of kind.RefusedType = cause.RefusedType
cause_of kind.Unknown = cause.Unknown
cause_of kind.Redeclared = cause.Redeclared
cause_of kind.Arity = cause.Arity
cause_of kind.NotConst = cause.NotConst
cause_of kind.NotPlace = cause.NotPlace
cause_of kind.Outside = cause.Outside
cause_of kind.Mismatch = cause.Mismatch
cause_of kind.NoReturn = cause.NoReturn
cause_of kind.Cells = cause.Cells
cause_of kind.Entry = cause.Entry

-- what comes of a tree under a header: its typed unit, or its least fault
pub data TypingFate : Type 0 where
  Whole : (unit : TypedUnit) → TypingFate
  Faulty : (fault : Fault) → TypingFate

pub data IsTypingFate (header : EngineTable) (tree : SourceTree) : TypingFate → Type 0 where
  whole : (unit : TypedUnit) → TypesUnit header tree unit → IsTypingFate header tree (Whole unit)
  faulty : (fault : Fault) → kept None (unit_faults header tree) ≡ Some fault
      → IsTypingFate header tree (Faulty fault)

-- a fault is told at its token; that of a script without beginning stands behind the last one
abbrev pub typing_by : PlainScript → TypingFate → Work TypedUnit
typing_by script (Whole unit) = Gives unit
typing_by script (Faulty fault) = Refused (at_token script fault.token (cause_of fault.kind))

-- the typed unit of a script under a header
unfoldable pub typed_in : EngineTable → PlainScript → Work TypedUnit
typed_in header script = Finds (λ (c : Contents) fate. IsTypingFate header script.tree fate)
    (typing_by script)

-- an answer, its script seen as the typed unit
abbrev pub plain_typed_answer : Result TypedScript Status → Result TypedUnit Status
plain_typed_answer (Ok script) = Ok (typed_unit script.typed)
plain_typed_answer (Err status) = Err status
