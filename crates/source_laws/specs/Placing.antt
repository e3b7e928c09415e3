-- Where the functions of a listed script stand.
use Rattle.std.specs.Prelude.{◌≡◌, ℕ, Some, slice_get}
use Rattle.typing_rules.specs.Typed.{TypedUnit}
use Rattle.ncs_emit.specs.Labelled.{place_of_label, program}
use Rattle.ncs_emit.specs.Standing.{LinesStand}
use Rattle.emission_rules.specs.Layout.{layout_of}
use Rattle.emission_rules.specs.Units.{emit_function, unit_code}
use Rattle.source_meaning.specs.Scripts.{Function, functions}

-- the code of a function of a unit, from its label on
pub record FunctionStands (u : TypedUnit) (f : ℕ) (fn : Function) : Type 0 where
  pub label : ℕ
  pub stands : LinesStand (program (unit_code u).lines) (place_of_label (unit_code u).lines)
      (place_of_label (unit_code u).lines f)
      (emit_function (layout_of u) label f fn.parameters fn.body)

-- Each function of a unit stands at the label of its number, in the order of the bodies.
abbrev pub FunctionsStand : Type 0
FunctionsStand = (u : TypedUnit) (f : ℕ) (fn : Function) → slice_get (functions u.items) f ≡ Some fn
    → FunctionStands u f fn
