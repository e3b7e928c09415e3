-- Rows of the rule, computed: shapes are seen from their tops.
use Rattle.std.proofs.Common.{◌≡◌, List, [], ◌∷◌, negsuc, Some, None, refl}
use Rattle.nwq_value.specs.declared.value.Ty.TheVariants.{Int, Text, Object}
use Rattle.nwq_value.specs.Engine.{EngineTable}
use Rattle.nwq_value.specs.Roles.{ty_eq, tys_eq}
use Rattle.ncs_code.specs.Plain as ops
use Rattle.stack_shape.specs.declared.shape.Slot.{Slot}
use Rattle.stack_shape.specs.declared.shape.Slot.TheVariants.{Of, Base}
use Rattle.stack_shape.specs.Rule.{rule}
use Rattle.stack_shape.specs.Stored.{TopShape}
use Rattle.stack_shape.specs.Ranges.{range_at, range_of, depth_of, cell_count}
use Rattle.stack_shape.specs.StackEffects.{stack_effect, kept, compared}

abbrev plain : List Slot → TopShape
plain cells = record { cells = cells; under = []; saved = []; pending = 0 }

abbrev none : EngineTable
none = record { routines = []; constants = [] }

-- -8 names the second cell from the top; the window has no third
copy_second : rule none (ops.CpTopSp (negsuc 7) 4) (plain (Of Int ∷ Of Text ∷ [])) ≡ Some (plain (Of Text ∷ Of Int ∷ Of Text ∷ []))
unfolding rule stack_effect range_at range_of depth_of cell_count
copy_second = refl

copy_below : rule none (ops.CpTopSp (negsuc 11) 4) (plain (Of Int ∷ Of Text ∷ [])) ≡ None
unfolding rule stack_effect range_at range_of depth_of cell_count
copy_below = refl

copy_nothing : rule none (ops.CpTopSp (negsuc 7) 0) (plain (Of Int ∷ Of Text ∷ [])) ≡ None
unfolding rule stack_effect range_at range_of depth_of cell_count
copy_nothing = refl

-- of the three lowest cells of four on top, the lowest is kept
keep_lowest : rule none (ops.Destruct 12 0 4) (plain (Of Int ∷ Of Text ∷ Of Object ∷ Of Int ∷ [])) ≡ Some (plain (Of Object ∷ Of Int ∷ []))
unfolding rule stack_effect kept cell_count
keep_lowest = refl

keep_none : rule none (ops.Destruct 0 0 0) (plain []) ≡ Some (plain [])
unfolding rule stack_effect kept cell_count
keep_none = refl

equal_runs : rule none (ops.Equal 0x24 8) (plain (Of Int ∷ Of Text ∷ Of Int ∷ Of Text ∷ [])) ≡ Some (plain (Of Int ∷ []))
unfolding rule stack_effect compared cell_count tys_eq ty_eq
equal_runs = refl

restore : rule none ops.RestoreBp (record { cells = Base ∷ []; under = []; saved = (Of Int ∷ []) ∷ []; pending = 2 })
    ≡ Some (record { cells = []; under = Of Int ∷ []; saved = []; pending = 2 })
unfolding rule
restore = refl

drop_odd : rule none (ops.MovSp (negsuc 1)) (plain (Of Int ∷ [])) ≡ None
unfolding rule stack_effect depth_of cell_count
drop_odd = refl
