-- That listed scripts do what their starts and their deferred commands mean.
use Rattle.std.specs.Prelude.{◌≡◌, ◌⊎◌, ℕ, List, Some, slice_get}
use Rattle.nwq_value.specs.declared.value.Ty.TheVariants.{Void, Int}
use Rattle.nwq_value.specs.Engine.{EngineTable}
use Rattle.typing_rules.specs.Typed.{TypedUnit}
use Rattle.typing_rules.specs.declared.places.EntryPoint.TheVariants.{Main, Conditional}
use Rattle.machine_rules.specs.Frames.{Frame}
use Rattle.source_meaning.specs.Scripts.{Listed, Setting}
use Rattle.source_laws.specs.Ledger.{MachineHost}
use Rattle.source_laws.specs.Carries.{unit_site}
use Rattle.source_laws.specs.EngineHost.{AnswersAreTyped}
use Rattle.source_laws.specs.Starts.{BeginsWith}
use Rattle.source_laws.specs.Executing.{IsHostOf, StartsDo}
use Rattle.source_laws.specs.Entries.{ResumesDo}

-- A unit begins with one of the two entry functions, its globals are fine, and its functions are
-- placed: as a script of this number, whatever object it runs as and whatever waits for it.
abbrev pub UnitIsReady : EngineTable → ℕ → TypedUnit → Type 0
UnitIsReady table script u = (self : ℕ) (waiting : List Frame)
    → BeginsWith Main Void table u (unit_site script u self waiting)
    ⊎ BeginsWith Conditional Int table u (unit_site script u self waiting)

-- so each listed script
abbrev pub AreReady : Setting → Type 0
AreReady s = (script : ℕ) (l : Listed) → slice_get s.scripts script ≡ Some l
    → UnitIsReady s.table script l.unit

-- what the listed scripts of a setting do in a machine
pub record ScriptsDo (s : Setting) (host : MachineHost) : Type 0 where
  pub starts : StartsDo s host
  pub resumes : ResumesDo s host

-- In a machine of the setting, where the engine's answers have the routines' types, ready scripts
-- do what their starts mean, and captured states what the deferred commands mean that they carry.
abbrev pub ListedScriptsDo : Type 0
ListedScriptsDo = (s : Setting) (host : MachineHost) → IsHostOf host s
    → AnswersAreTyped s.table s.tables → AreReady s → ScriptsDo s host
