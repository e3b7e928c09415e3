-- What an engine call takes, and when a routine can be called.
use Rattle.std.specs.Prelude.{ℕ, ◌+◌, List, [], ◌∷◌, length, Option, None, Bool, true, false, not, ◌&&◌, ◌==◌, nat_le, if◌then◌else◌}
use Rattle.std.specs.List.{list_any}
use Rattle.nwq_value.specs.declared.value.Ty.{Ty}
use Rattle.nwq_value.specs.declared.value.Ty.TheVariants.{Void, Action}
use Rattle.nwq_value.specs.declared.engine.Param.{Param}
use Rattle.nwq_value.specs.declared.engine.Role.{Role}
use Rattle.nwq_value.specs.declared.engine.Role.TheVariants.{Uncallable}
use Rattle.nwq_value.specs.declared.engine.Routine.{Routine}
use Rattle.stack_shape.specs.declared.shape.Slot.{Slot}
use Rattle.stack_shape.specs.declared.effect.StackEffect.{StackEffect}
use Rattle.stack_shape.specs.StackEffects.{exchange}

abbrev pub is_action : Ty → Bool
is_action Action = true
is_action _ = false

abbrev pub is_void : Ty → Bool
is_void Void = true
is_void _ = false

abbrev pub is_uncallable : Role → Bool
is_uncallable Uncallable = true
is_uncallable _ = false

-- A routine can be called where its role says so. No value fits a void parameter.
unfoldable pub is_callable : Routine → Bool
is_callable r = not (is_uncallable r.role) && not (list_any (λ p. is_void p.ty) r.params)

-- what a call takes from the cells, first parameter first, so from the top
abbrev pub argument_types : List Param → List Ty
argument_types [] = []
argument_types (p ∷ ps) = if is_action p.ty then argument_types ps else p.ty ∷ argument_types ps

-- how many pending states a call takes: one for each action
abbrev pub action_count : List Param → ℕ
action_count [] = 0
action_count (p ∷ ps) = if is_action p.ty then action_count ps + 1 else action_count ps

-- what a call pushes
abbrev pub result_types : Ty → List Ty
result_types Void = []
result_types t = t ∷ []

-- whether a call with this count fits the routine and the number of pending states
unfoldable pub fits_call : Routine → ℕ → ℕ → Bool
fits_call r count pending = is_callable r && (count == length r.params)
    && nat_le (action_count r.params) pending

-- the stack effect of a call with this count, where so many states are pending
unfoldable pub call_effect : Routine → ℕ → ℕ → List Slot → Option StackEffect
call_effect r count pending cells =
    if fits_call r count pending then exchange (argument_types r.params)
    (result_types r.result) cells else None
