-- A play of code, computed.
use Rattle.std.proofs.Common.{◌≡◌, ℕ, List, [], ◌∷◌, refl}
use Rattle.std.specs.Prelude.{ℤ, pos, codes, ◌*◌, neg_ℤ}
use Rattle.std.specs.Fmt.{digits}
use Rattle.area_rules.specs.Area.{PlainArea}
use Rattle.nwq_value.specs.Header.{header_routines}
use Rattle.nwq_value.specs.HeaderTable.{header_table}
use Rattle.nwq_value.specs.Roles.{ty_eq, tys_eq, role_without_row}
use Rattle.nwq_value.specs.Operators.{value_eq}
use Rattle.nwq_text.specs.Escape.{escaped, spelling}
use Rattle.nwq_text.specs.Values.{value_text}
use Rattle.ncs_code.specs.Plain.{PlainOp}
use Rattle.ncs_code.specs.Plain as ops
use Rattle.ncs_code.specs.File.{op_at}
use Rattle.saved_state.specs.declared.saved.Saved.{Saved}
use Rattle.stack_shape.specs.Ranges.{cell_count, depth_of, range_of, range_at}
use Rattle.stack_shape.specs.Calls.{is_callable}
use Rattle.stack_shape.specs.StackEffects.{type_of_one, type_of_both}
use Rattle.machine_rules.specs.Act.{cells_after, act}
use Rattle.machine_rules.specs.Machine.{Script, Host, step}
use Rattle.world_rules.specs.Engine.{engine}
use Rattle.world_rules.specs.Trace.{line_text, trace_text}
use Rattle.world_rules.specs.Turns.{new_world}
use Rattle.world_rules.specs.World.{World}
use Rattle.world_rules.specs.EndText.{end_text, world_text}
use Rattle.world_rules.specs.Plays.{Played}
use Rattle.ncs_machine.specs.Host.{host}
use Rattle.module_player.specs.CodePlays.{code_end_text, code_play, code_runner}

-- an offset of so many cells down
abbrev down : ℕ → ℤ
down cells = neg_ℤ (pos (4 * cells))

abbrev int : ℤ → PlainOp
int n = ops.Const (ops.Int n)

abbrev print : PlainOp
print = ops.Action 4 1

-- `void main() { int n=1; DelayCommand(1000, PrintInteger(n)); n=2; PrintInteger(n); }`
abbrev local_code : List PlainOp
local_code =
    ops.Jsr (pos 8) ∷ ops.Retn ∷ int (pos 1)
    ∷ ops.StoreState 0 4 ∷ ops.Jmp (pos 21) ∷ ops.CpTopSp (down 1) 4 ∷ print ∷ ops.Retn ∷ int (pos 1000) ∷ ops.Action 7 2
    ∷ int (pos 2) ∷ ops.CpDownSp (down 2) 4 ∷ ops.MovSp (down 1)
    ∷ ops.CpTopSp (down 1) 4 ∷ print ∷ ops.MovSp (down 1) ∷ ops.Retn ∷ []

abbrev scripts : List Script
scripts = record { name = codes "p"; code = local_code } ∷ []

abbrev host_here : Host (World Saved)
host_here = host scripts (record { table = header_table; cell = λ name column row. [] })

-- an area without objects, and one start of the script
abbrev begun : PlainArea → World Saved
begun area = new_world (record area { objects = [] }) [] (record { due = 0; object = 0; script = codes "P" } ∷ []) 2

abbrev played : PlainArea → ℕ → Played Saved
played area limit = code_play host_here limit 10 60000 (begun area)

-- the captured value is printed later
played_trace : (area : PlainArea) → trace_text (played area 100).last.trace ≡ codes "0 #0 print 2\n1000 #0 print 1\n"
unfolding code_runner host step act engine header_table header_routines role_without_row op_at cell_count depth_of range_of range_at is_callable type_of_one type_of_both value_eq cells_after
    ty_eq tys_eq trace_text line_text digits escaped spelling value_text
played_trace area = refl

played_end : (area : PlainArea) → code_end_text scripts (played area 100) ≡ codes "end done clock 1000 entries 2 instructions 17\n"
unfolding code_runner host step act engine header_table header_routines role_without_row op_at cell_count depth_of range_of range_at is_callable type_of_one type_of_both value_eq cells_after
    ty_eq tys_eq end_text world_text digits escaped spelling value_text
played_end area = refl

-- the first entry takes 14 instructions; with fewer it is stopped before the state is stored
stopped_end : (area : PlainArea) → code_end_text scripts (played area 5) ≡ codes "end instructions clock 0 entries 1 instructions 5\n"
unfolding code_runner host step act engine header_table header_routines role_without_row op_at cell_count depth_of range_of range_at is_callable type_of_one type_of_both value_eq cells_after
    ty_eq tys_eq end_text world_text digits escaped spelling value_text
stopped_end area = refl
