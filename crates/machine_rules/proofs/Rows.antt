-- Whole entries, computed: the code of small scripts, as this project's compiler writes it, under
-- the built-in header.
use Rattle.std.proofs.Common.{◌≡◌, ℕ, List, [], ◌∷◌, ◌++◌, Option, Some, None, refl}
use Rattle.std.specs.Prelude.{ℤ, pos, negsuc, codes, ◌==◌, ◌||◌, ◌*◌, neg_ℤ}
use Rattle.nwq_value.specs.declared.value.Value.{Value}
use Rattle.nwq_value.specs.declared.value.Value.TheVariants.{Int, Text, Object}
use Rattle.nwq_value.specs.Header.{header_routines}
use Rattle.nwq_value.specs.HeaderTable.{header_table}
use Rattle.nwq_value.specs.Roles.{ty_eq, tys_eq, role_without_row}
use Rattle.nwq_value.specs.Operators.{value_eq}
use Rattle.ncs_code.specs.Plain.{PlainOp}
use Rattle.ncs_code.specs.Plain as ops
use Rattle.ncs_code.specs.File.{op_at}
use Rattle.saved_state.specs.declared.saved.Saved.{Saved}
use Rattle.stack_shape.specs.Ranges.{cell_count, depth_of, range_of, range_at}
use Rattle.stack_shape.specs.Calls.{is_callable}
use Rattle.stack_shape.specs.StackEffects.{type_of_one, type_of_both}
use Rattle.saved_state.specs.declared.cell.Cell.{Cell}
use Rattle.saved_state.specs.declared.cell.Cell.TheVariants.{Value as Holds, Base}
use Rattle.saved_state.specs.Cells.{StackView}
use Rattle.machine_rules.specs.Act.{cells_after, act}
use Rattle.machine_rules.specs.Machine.{Script, Answered, Host, step}
use Rattle.machine_rules.specs.Runs.{Ending, Over, ZeroDivisor, OutOfInstructions, StackFault, Ran, run_script, run_stored}

-- ---- a small engine: it prints ints with their callers, and keeps the states of delayed commands

data Line : Type 0 where
  Print : ℕ → ℤ → Line
  NoScript : ℕ → List ℕ → Line
  TooDeep : ℕ → List ℕ → Line

record World : Type 0 where
  trace : List Line
  delayed : List Saved

abbrev fresh : World
fresh = record { trace = []; delayed = [] }

abbrev put : Line → World → World
put line w = record w { trace = w.trace ++ line ∷ [] }

abbrev told : Option Value → World → Answered World
told value w = record { value = value; world = w }

abbrev asked : ℕ → List Value → Option Saved → World → Answered World
asked caller (Int n ∷ []) None w = told None (put (Print caller n) w)
asked caller (Int ms ∷ []) (Some saved) w = told None (record w { delayed = w.delayed ++ saved ∷ [] })
asked caller (Text tag ∷ Int nth ∷ []) action w = told (Some (Object 1)) w
asked caller _ action w = told None w

abbrev script : List ℕ → List PlainOp → Script
script name code = record { name = name; code = code }

abbrev host : List Script → Host World
host scripts = record {
  scripts = scripts;
  table = header_table;
  engine = λ routine caller values action w. asked caller values action w;
  may_run = λ caller target w. target == caller || target == 1;
  no_script = λ target name w. put (NoScript target name) w;
  too_deep = λ target name w. put (TooDeep target name) w;
}

-- what is looked at: how a run ended, its count, and the world's trace
record Seen : Type 0 where
  ending : Ending
  count : ℕ
  trace : List Line

abbrev seen : Ran World → Seen
seen r = record { ending = r.ending; count = r.count; trace = r.last.world.trace }

-- a script that runs from its start on object 0, and then what it has delayed, each entry with a
-- trace of its own
record Played : Type 0 where
  first : Seen
  later : List Seen

abbrev all_later : List Script → List Saved → List Seen
all_later scripts [] = []
all_later scripts (saved ∷ rest) = seen (run_stored (host scripts) 100 saved 0 fresh) ∷ all_later scripts rest

abbrev played : List Script → Played
played scripts = let r = run_script (host scripts) 100 0 0 fresh in record { first = seen r; later = all_later scripts r.last.world.delayed }

abbrev alone : List PlainOp → List Script
alone code = script (codes "p") code ∷ []

-- ---- instructions

abbrev int : ℤ → PlainOp
int n = ops.Const (ops.Int n)

abbrev text : List ℕ → PlainOp
text bytes = ops.Const (ops.Text bytes)

abbrev self : PlainOp
self = ops.Const (ops.Object 0)

abbrev print : PlainOp
print = ops.Action 4 1

abbrev delay : PlainOp
delay = ops.Action 7 2

abbrev execute : PlainOp
execute = ops.Action 8 2

-- an offset of so many cells down
abbrev down : ℕ → ℤ
down cells = neg_ℤ (pos (4 * cells))

-- ---- scripts

-- `void main() { PrintInteger(2+3); }`
abbrev sum_code : List PlainOp
sum_code = ops.Jsr (pos 8) ∷ ops.Retn ∷ int (pos 2) ∷ int (pos 3) ∷ ops.Add 0x20 ∷ print ∷ ops.Retn ∷ []

-- `void main() { int n=1; DelayCommand(1000, PrintInteger(n)); n=2; PrintInteger(n); }`
abbrev local_code : List PlainOp
local_code =
    ops.Jsr (pos 8) ∷ ops.Retn ∷ int (pos 1)
    ∷ ops.StoreState 0 4 ∷ ops.Jmp (pos 21) ∷ ops.CpTopSp (down 1) 4 ∷ print ∷ ops.Retn ∷ int (pos 1000) ∷ delay
    ∷ int (pos 2) ∷ ops.CpDownSp (down 2) 4 ∷ ops.MovSp (down 1)
    ∷ ops.CpTopSp (down 1) 4 ∷ print ∷ ops.MovSp (down 1) ∷ ops.Retn ∷ []

-- the start of a script with one global cell
abbrev with_global : PlainOp → List PlainOp → List PlainOp
with_global value main =
    ops.Jsr (pos 8) ∷ ops.Retn ∷ value ∷ ops.SaveBp ∷ ops.Jsr (pos 16) ∷ ops.RestoreBp ∷ ops.MovSp (down 1) ∷ ops.Retn ∷ main

-- `int n=1; void main() { DelayCommand(1000, PrintInteger(n)); n=2; PrintInteger(n); }`
abbrev global_code : List PlainOp
global_code = with_global (int (pos 1))
    (ops.StoreState 4 0 ∷ ops.Jmp (pos 21) ∷ ops.CpTopBp (down 1) 4 ∷ print ∷ ops.Retn ∷ int (pos 1000) ∷ delay
    ∷ int (pos 2) ∷ ops.CpDownBp (down 1) 4 ∷ ops.MovSp (down 1) ∷ ops.CpTopBp (down 1) 4 ∷ print ∷ ops.Retn ∷ [])

-- `void main() { PrintInteger(7); PrintInteger(1/0); PrintInteger(8); }`
abbrev divide_code : List PlainOp
divide_code =
    ops.Jsr (pos 8) ∷ ops.Retn ∷ int (pos 7) ∷ print ∷ int (pos 1) ∷ int (pos 0) ∷ ops.Div 0x20 ∷ print ∷ int (pos 8) ∷ print ∷ ops.Retn ∷ []

-- `int f(int a, int b) { if (a==0) return b; return f(a-1,b+1); } void main() {
-- PrintInteger(f(3,4)); }`
abbrev recursive_code : List PlainOp
recursive_code =
    ops.Jsr (pos 118) ∷ ops.Retn
    ∷ ops.CpTopSp (down 1) 4 ∷ int (pos 0) ∷ ops.Equal 0x20 0 ∷ ops.Jz (pos 30)
    ∷ ops.CpTopSp (down 2) 4 ∷ ops.CpDownSp (down 4) 4 ∷ ops.MovSp (down 3) ∷ ops.Retn
    ∷ ops.RsAdd 0x03 ∷ ops.CpTopSp (down 3) 4 ∷ int (pos 1) ∷ ops.Add 0x20 ∷ ops.CpTopSp (down 3) 4 ∷ int (pos 1) ∷ ops.Sub 0x20
    ∷ ops.Jsr (negsuc 79) ∷ ops.CpDownSp (down 4) 4 ∷ ops.MovSp (down 3) ∷ ops.Retn ∷ ops.MovSp (down 2) ∷ ops.Retn
    ∷ ops.RsAdd 0x03 ∷ int (pos 4) ∷ int (pos 3) ∷ ops.Jsr (negsuc 123) ∷ print ∷ ops.Retn ∷ []

-- `void main() { PrintInteger(1); ExecuteScript("P"); }`, as script p
abbrev endless_code : List PlainOp
endless_code = ops.Jsr (pos 8) ∷ ops.Retn ∷ int (pos 1) ∷ print ∷ self ∷ text (codes "P") ∷ execute ∷ ops.Retn ∷ []

-- `void main() { ExecuteScript("q"); PrintInteger(3); }`
abbrev unlisted_code : List PlainOp
unlisted_code = ops.Jsr (pos 8) ∷ ops.Retn ∷ self ∷ text (codes "q") ∷ execute ∷ int (pos 3) ∷ print ∷ ops.Retn ∷ []

-- `int g=1; void main() { ExecuteScript("t", GetObjectByTag("guard")); PrintInteger(g); }`
abbrev caller_code : List PlainOp
caller_code = with_global (int (pos 1))
    (int (pos 0) ∷ text (codes "guard") ∷ ops.Action 14 2 ∷ text (codes "t") ∷ execute ∷ ops.CpTopBp (down 1) 4 ∷ print ∷ ops.Retn ∷ [])

-- `int g=5; void main() { g=6; PrintInteger(g); }`
abbrev callee_code : List PlainOp
callee_code = with_global (int (pos 5))
    (int (pos 6) ∷ ops.CpDownBp (down 1) 4 ∷ ops.MovSp (down 1) ∷ ops.CpTopBp (down 1) 4 ∷ print ∷ ops.Retn ∷ [])

-- ---- entries

prints_a_sum : played (alone sum_code) ≡ record { first = record { ending = Over; count = 7; trace = Print 0 (pos 5) ∷ [] }; later = [] }
unfolding step act cells_after op_at header_table header_routines role_without_row range_at range_of depth_of cell_count is_callable type_of_one type_of_both value_eq ty_eq tys_eq
prints_a_sum = refl

-- a captured local keeps the value that it had
captures_a_local : played (alone local_code) ≡ record {
  first = record { ending = Over; count = 14; trace = Print 0 (pos 2) ∷ [] };
  later = record { ending = Over; count = 3; trace = Print 0 (pos 1) ∷ [] } ∷ [];
}
unfolding step act cells_after op_at header_table header_routines role_without_row range_at range_of depth_of cell_count is_callable type_of_one type_of_both value_eq ty_eq tys_eq
captures_a_local = refl

captures_a_global : played (alone global_code) ≡ record {
  first = record { ending = Over; count = 18; trace = Print 0 (pos 2) ∷ [] };
  later = record { ending = Over; count = 3; trace = Print 0 (pos 1) ∷ [] } ∷ [];
}
unfolding step act cells_after op_at header_table header_routines role_without_row range_at range_of depth_of cell_count is_callable type_of_one type_of_both value_eq ty_eq tys_eq
captures_a_global = refl

-- what was done before a division by zero stays done, and the division counts
divides_by_zero : played (alone divide_code) ≡ record { first = record { ending = ZeroDivisor; count = 6; trace = Print 0 (pos 7) ∷ [] }; later = [] }
unfolding step act cells_after op_at header_table header_routines role_without_row range_at range_of depth_of cell_count is_callable type_of_one type_of_both value_eq ty_eq tys_eq
divides_by_zero = refl

calls_itself : played (alone recursive_code) ≡ record { first = record { ending = Over; count = 61; trace = Print 0 (pos 7) ∷ [] }; later = [] }
unfolding step act cells_after op_at header_table header_routines role_without_row range_at range_of depth_of cell_count is_callable type_of_one type_of_both value_eq ty_eq tys_eq
calls_itself = refl

-- with a limit of one instruction less the entry is stopped before its last one
stops_at_the_limit : seen (run_script (host (alone sum_code)) 6 0 0 fresh) ≡ record { ending = OutOfInstructions; count = 6; trace = Print 0 (pos 5) ∷ [] }
unfolding step act cells_after op_at header_table header_routines role_without_row range_at range_of depth_of cell_count is_callable type_of_one type_of_both value_eq ty_eq tys_eq
stops_at_the_limit = refl

-- nine scripts in one another, and the tenth doesn't run
runs_too_deep : played (alone endless_code) ≡ record {
  first = record {
    ending = Over;
    count = 72;
    trace = Print 0 (pos 1) ∷ Print 0 (pos 1) ∷ Print 0 (pos 1) ∷ Print 0 (pos 1) ∷ Print 0 (pos 1) ∷ Print 0 (pos 1)
        ∷ Print 0 (pos 1) ∷ Print 0 (pos 1) ∷ Print 0 (pos 1) ∷ TooDeep 0 (codes "P") ∷ [];
  };
  later = [];
}
unfolding step act cells_after op_at header_table header_routines role_without_row range_at range_of depth_of cell_count is_callable type_of_one type_of_both value_eq ty_eq tys_eq
runs_too_deep = refl

is_not_listed : played (alone unlisted_code) ≡ record {
  first = record { ending = Over; count = 8; trace = NoScript 0 (codes "q") ∷ Print 0 (pos 3) ∷ [] };
  later = [];
}
unfolding step act cells_after op_at header_table header_routines role_without_row range_at range_of depth_of cell_count is_callable type_of_one type_of_both value_eq ty_eq tys_eq
is_not_listed = refl

-- an executed script has globals and an object of its own
executes_a_script : played (script (codes "s") caller_code ∷ script (codes "t") callee_code ∷ []) ≡ record {
  first = record { ending = Over; count = 30; trace = Print 1 (pos 6) ∷ Print 0 (pos 1) ∷ [] };
  later = [];
}
unfolding step act cells_after op_at header_table header_routines role_without_row range_at range_of depth_of cell_count is_callable type_of_one type_of_both value_eq ty_eq tys_eq
executes_a_script = refl

-- a division by zero in an executed script ends the whole entry
ends_the_whole_entry : played (script (codes "s") caller_code ∷ script (codes "t") divide_code ∷ []) ≡ record {
  first = record { ending = ZeroDivisor; count = 15; trace = Print 1 (pos 7) ∷ [] };
  later = [];
}
unfolding step act cells_after op_at header_table header_routines role_without_row range_at range_of depth_of cell_count is_callable type_of_one type_of_both value_eq ty_eq tys_eq
ends_the_whole_entry = refl

-- no instruction begins in the middle of another
stands_nowhere : played (alone (ops.Jmp (pos 1) ∷ ops.Retn ∷ [])) ≡ record { first = record { ending = StackFault; count = 1; trace = [] }; later = [] }
unfolding step act cells_after op_at header_table header_routines role_without_row range_at range_of depth_of cell_count is_callable type_of_one type_of_both value_eq ty_eq tys_eq
stands_nowhere = refl

-- ---- instructions

abbrev ints : ℤ → ℤ → StackView
ints x y = record { cells = Holds (Int y) ∷ Holds (Int x) ∷ []; bp = 0 }

abbrev one : ℤ → Option (List Cell)
one n = Some (Holds (Int n) ∷ [])

least_by_minus_one : cells_after (ops.Div 0x20) 0 (ints (negsuc 2147483647) (negsuc 0)) ≡ one (negsuc 2147483647)
unfolding step act cells_after op_at header_table header_routines role_without_row range_at range_of depth_of cell_count is_callable type_of_one type_of_both value_eq ty_eq tys_eq
least_by_minus_one = refl

rest_of_least : cells_after ops.Mod 0 (ints (negsuc 2147483647) (negsuc 0)) ≡ one (pos 0)
unfolding step act cells_after op_at header_table header_routines role_without_row range_at range_of depth_of cell_count is_callable type_of_one type_of_both value_eq ty_eq tys_eq
rest_of_least = refl

rest_has_the_sign : cells_after ops.Mod 0 (ints (negsuc 6) (pos 3)) ≡ one (negsuc 0)
unfolding step act cells_after op_at header_table header_routines role_without_row range_at range_of depth_of cell_count is_callable type_of_one type_of_both value_eq ty_eq tys_eq
rest_has_the_sign = refl

shifts_by_32 : cells_after ops.ShLeft 0 (ints (pos 1) (pos 32)) ≡ one (pos 1)
unfolding step act cells_after op_at header_table header_routines role_without_row range_at range_of depth_of cell_count is_callable type_of_one type_of_both value_eq ty_eq tys_eq
shifts_by_32 = refl

keeps_the_sign : cells_after ops.ShRight 0 (ints (negsuc 7) (pos 1)) ≡ one (negsuc 3)
unfolding step act cells_after op_at header_table header_routines role_without_row range_at range_of depth_of cell_count is_callable type_of_one type_of_both value_eq ty_eq tys_eq
keeps_the_sign = refl

fills_with_zeros : cells_after ops.UshRight 0 (ints (negsuc 0) (pos 28)) ≡ one (pos 15)
unfolding step act cells_after op_at header_table header_routines role_without_row range_at range_of depth_of cell_count is_callable type_of_one type_of_both value_eq ty_eq tys_eq
fills_with_zeros = refl

compares_runs : cells_after (ops.Nequal 0x24 4) 0 (ints (pos 3) (pos 4)) ≡ one (pos 1)
unfolding step act cells_after op_at header_table header_routines role_without_row range_at range_of depth_of cell_count is_callable type_of_one type_of_both value_eq ty_eq tys_eq
compares_runs = refl

keeps_the_lower : cells_after (ops.Destruct 8 0 4) 0 (ints (pos 3) (pos 4)) ≡ one (pos 3)
unfolding step act cells_after op_at header_table header_routines role_without_row range_at range_of depth_of cell_count is_callable type_of_one type_of_both value_eq ty_eq tys_eq
keeps_the_lower = refl

counts_the_lower : cells_after (ops.DecISp (down 2)) 0 (ints (negsuc 2147483647) (pos 4)) ≡ Some (Holds (Int (pos 4)) ∷ Holds (Int (pos 2147483647)) ∷ [])
unfolding step act cells_after op_at header_table header_routines role_without_row range_at range_of depth_of cell_count is_callable type_of_one type_of_both value_eq ty_eq tys_eq
counts_the_lower = refl

takes_no_base : cells_after (ops.MovSp (down 1)) 0 (record { cells = Base 0 ∷ []; bp = 0 }) ≡ None
unfolding step act cells_after op_at header_table header_routines role_without_row range_at range_of depth_of cell_count is_callable type_of_one type_of_both value_eq ty_eq tys_eq
takes_no_base = refl

-- nothing above BP is reached from it
ends_at_bp : cells_after (ops.CpTopBp (down 1) 8) 0 (ints (pos 3) (pos 4)) ≡ None
unfolding step act cells_after op_at header_table header_routines role_without_row range_at range_of depth_of cell_count is_callable type_of_one type_of_both value_eq ty_eq tys_eq
ends_at_bp = refl
