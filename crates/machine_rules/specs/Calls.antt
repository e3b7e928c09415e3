-- What an engine call takes from its frame.
use Rattle.std.specs.Prelude.{ℕ, List, [], ◌∷◌, length, Option, None, Some, Bool, false, ◌&&◌, ◌==◌, if◌then◌else◌}
use Rattle.std.specs.Option.{option_map}
use Rattle.nwq_value.specs.declared.value.Ty.{Ty}
use Rattle.nwq_value.specs.declared.value.Value.{Value}
use Rattle.nwq_value.specs.declared.engine.Param.{Param}
use Rattle.nwq_value.specs.declared.engine.Role.{Role}
use Rattle.nwq_value.specs.declared.engine.Role.TheVariants.{Built}
use Rattle.nwq_value.specs.declared.engine.Routine.{Routine}
use Rattle.nwq_value.specs.Values.{type_of}
use Rattle.nwq_value.specs.Roles.{ty_eq}
use Rattle.saved_state.specs.declared.cell.Cell.{Cell}
use Rattle.saved_state.specs.declared.cell.Cell.TheVariants.{Value as Holds}
use Rattle.saved_state.specs.declared.saved.Saved.{Saved}
use Rattle.stack_shape.specs.Calls.{is_action, is_callable}

-- What a call takes, and what it leaves. No routine that can be called has two action parameters.
pub record Taken : Type 0 where
  -- the arguments that are values, the first one first
  pub values : List Value
  pub action : Option Saved
  pub cells : List Cell
  pub pending : List Saved

abbrev pub with_value : Value → Taken → Taken
with_value v t = record t { values = v ∷ t.values }

abbrev pub with_action : Saved → Taken → Taken
with_action saved t = record t { action = Some saved }

-- the value on top, where it has this type, before what is taken from the cells beneath it
abbrev pub value_taken : Ty → List Cell → (List Cell → Option Taken) → Option Taken
value_taken type (Holds v ∷ cells) go = if ty_eq (type_of v) type then option_map (with_value v)
    (go cells) else None
value_taken type _ go = None

-- the newest pending state, before what is taken from the others
abbrev pub action_taken : List Saved → (List Saved → Option Taken) → Option Taken
action_taken (saved ∷ pending) go = option_map (with_action saved) (go pending)
action_taken [] go = None

-- For each parameter in order the value on top is taken, or for an action the newest pending state.
abbrev pub taken : List Param → List Cell → List Saved → Option Taken
taken [] cells pending = Some
    (record { values = []; action = None; cells = cells; pending = pending })
taken (p ∷ ps) cells pending =
    if is_action p.ty
    then action_taken pending (λ rest. taken ps cells rest)
    else value_taken p.ty cells (λ rest. taken ps rest pending)

-- a call with this count of arguments: the routine can be called, and has so many parameters
abbrev pub arguments : Routine → ℕ → List Cell → List Saved → Option Taken
arguments r count cells pending = if is_callable r
    && (count == length r.params) then taken r.params cells pending else None

-- the engine's own routine that runs another script at once
abbrev pub execute_script : ℕ
execute_script = 8

abbrev pub is_execute_script : Role → Bool
is_execute_script (Built n) = n == execute_script
is_execute_script _ = false
