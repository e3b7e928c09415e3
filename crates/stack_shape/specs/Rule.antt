-- The rule of one instruction on a shape that is seen from its top.
use Rattle.std.specs.Prelude.{ℕ, ◌+◌, ◌-◌, List, [], ◌∷◌, map, reverse, slice_get, Option, None, Some}
use Rattle.std.specs.Option.{option_and_then, option_map}
use Rattle.nwq_value.specs.declared.engine.Routine.{Routine}
use Rattle.nwq_value.specs.Engine.{EngineTable}
use Rattle.ncs_code.specs.Plain.{PlainOp}
use Rattle.ncs_code.specs.Plain as ops
use Rattle.stack_shape.specs.declared.shape.Slot.{Slot}
use Rattle.stack_shape.specs.declared.shape.Slot.TheVariants.{Of, Base}
use Rattle.stack_shape.specs.declared.shape.Shape.{Shape}
use Rattle.stack_shape.specs.declared.effect.StackEffect.{StackEffect}
use Rattle.stack_shape.specs.StackEffects.{after_effect, stack_effect}
use Rattle.stack_shape.specs.Calls.{action_count, call_effect}
use Rattle.stack_shape.specs.Stored.{TopShape, stored_types}

-- a shape from its top
abbrev pub top_first : Shape → TopShape
top_first shape = record {
  cells = reverse shape.cells;
  under = reverse shape.under;
  saved = map reverse (reverse shape.saved);
  pending = shape.pending;
}

-- the shape after an effect on its cells, where there is one
abbrev pub affected : Option StackEffect → TopShape → Option TopShape
affected effect s = option_map (λ e. record s { cells = after_effect e s.cells }) effect

-- SAVEBP: what was beneath BP is put aside, and BP stands beneath the new base.
abbrev pub based : TopShape → TopShape
based s = record {
  cells = Base ∷ s.cells;
  under = s.cells;
  saved = s.under ∷ s.saved;
  pending = s.pending;
}

-- RESTOREBP: a base is on top, and what was put aside last is beneath BP again.
abbrev pub restored : List Slot → List (List Slot) → ℕ → Option TopShape
restored (Base ∷ cells) (under ∷ saved) pending = Some
    (record { cells = cells; under = under; saved = saved; pending = pending })
restored (Base ∷ cells) [] pending = None
restored (Of t ∷ cells) saved pending = None
restored [] saved pending = None

-- STORE_STATE: one more state is pending, where its cells are there.
abbrev pub stored : ℕ → ℕ → TopShape → Option TopShape
stored globals locals s = option_map (λ _. record s { pending = s.pending + 1 })
    (stored_types globals locals s.under s.cells)

-- ACTION: the arguments and the pending states go, and the result is pushed.
abbrev pub called_with : Routine → ℕ → TopShape → Option TopShape
called_with r count s =
    affected (call_effect r count s.pending s.cells)
    (record s { pending = s.pending - action_count r.params })

abbrev pub called_shape : Option Routine → ℕ → TopShape → Option TopShape
called_shape routine count s = option_and_then (λ r. called_with r count s) routine

-- JSR and RETN have rules of more than one shape, which stand elsewhere.
abbrev pub IsOneStep : PlainOp → Type 0
IsOneStep (ops.Jsr offset) = ⊥
IsOneStep ops.Retn = ⊥
IsOneStep _ = Unit {0}

-- the shape after an instruction, where it has a rule on the shape before it
unfoldable pub rule : EngineTable → PlainOp → TopShape → Option TopShape
rule table (ops.Action routine count) s = called_shape (slice_get table.routines routine) count s
rule table ops.SaveBp s = Some (based s)
rule table ops.RestoreBp s = restored s.cells s.saved s.pending
rule table (ops.StoreState globals locals) s = stored globals locals s
rule table op s = affected (stack_effect op s.under s.cells) s
