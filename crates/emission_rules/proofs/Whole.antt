-- The code of a unit that keeps the bounds: each instruction has a spelling, each jump leads to a
-- label that is placed, and the last line is an instruction.
use Rattle.std.proofs.Common.{rules, ◌≡◌, ◌≤◌, ◌<◌, ℕ, ℤ, pos, ◌+◌, ◌-◌, ◌*◌, ◌^◌, List, [], ◌∷◌, ◌++◌, length, arith, refl, Bool, true, false, cond, ltb, Option, Some, None, zero, suc}
use Rattle.std.proofs.lemmas.Bool.Decides.{nat_tests}
use Rattle.std.specs.Prelude.{FitsSigned}
use Rattle.std.specs.Int.{w32}
use Rattle.std.specs.List.{AllByRecursion}
use Rattle.nss_tree.specs.declared.operators.PrefixOperator.{PrefixOperator}
use Rattle.nss_tree.specs.declared.operators.PrefixOperator.TheVariants as pre
use Rattle.nss_tree.specs.declared.operators.PostfixOperator.{PostfixOperator}
use Rattle.nss_tree.specs.declared.operators.PostfixOperator.TheVariants as post
use Rattle.nss_tree.specs.declared.operators.BinaryOperator.{BinaryOperator}
use Rattle.nss_tree.specs.declared.operators.BinaryOperator.TheVariants as bin
use Rattle.nss_tree.specs.declared.operators.AssignOperator.{AssignOperator}
use Rattle.nss_tree.specs.declared.operators.AssignOperator.TheVariants as asg
use Rattle.nss_tree.specs.Statements.{block, empty, expression, if_only, if_else, while_loop, do_loop, for_loop, switch, break_off, continue_on, return_from, declaration, case_label, default_label}
use Rattle.nss_tree.specs.Statements.{no_stmt, more_stmts}
use Rattle.nss_tree.specs.Units.{structure, constant, global, function}
use Rattle.nwq_value.specs.declared.value.Ty.{Ty}
use Rattle.nwq_value.specs.declared.value.Ty.TheVariants.{Void, Int, Text, Object, Effect, Event, Action, Struct, Refused}
use Rattle.nwq_value.specs.declared.engine.Const.{Const}
use Rattle.nwq_value.specs.declared.engine.Const.TheVariants as const
use Rattle.nwq_value.specs.Limits.{struct_cell_limit}
use Rattle.ncs_code.specs.Plain.{PlainOp}
use Rattle.ncs_code.specs.Plain as ops
use Rattle.ncs_code.specs.Spelling.{IsOp, has_type}
use Rattle.ncs_emit.specs.declared.jump.Jump.{Jump}
use Rattle.ncs_emit.specs.declared.jump.Jump.TheVariants.{Jmp, Jsr, Jz, Jnz}
use Rattle.ncs_emit.specs.Labelled.{Line, Instruction, JumpTo, Label, placements}
use Rattle.ncs_emit.specs.Leading.{LineFits, IsLed, is_state, LeadsOn, Closes}
use Rattle.ncs_emit.specs.Laws.{PlacementsAdd, BothLeadOn, BothClose}
use Rattle.typing_rules.specs.declared.places.Place.{Place}
use Rattle.typing_rules.specs.declared.places.Place.TheVariants.{Local, Global, Const as IsConst}
use Rattle.typing_rules.specs.declared.places.Callee.{Callee}
use Rattle.typing_rules.specs.declared.places.Callee.TheVariants.{Unit as InUnit, Engine}
use Rattle.typing_rules.specs.declared.places.EntryPoint.{EntryPoint}
use Rattle.typing_rules.specs.declared.places.EntryPoint.TheVariants.{Main, Conditional}
use Rattle.typing_rules.specs.Typed.{TypedExpr, TypedExprs, TypedName, TypedStmt, TypedStmts, TypedItem, TypedParameter, TypedUnit, literal, name, call, member, prefix, postfix, binary, assign}
use Rattle.typing_rules.specs.Typed.{no_typed, more_typed, type_of}
use Rattle.typing_rules.specs.Cells.{cell_types, cells, is_captured}
use Rattle.emission_rules.specs.Layout.{Layout, layout_of, names_cells, declared_cells, all_declared_cells, params_cells, item_cells, global_cells}
use Rattle.emission_rules.specs.Operations.{beneath, bytes_of, dropped, literal_of, cell_kind, started, sum_kind, operation, combination}
use Rattle.emission_rules.specs.Expressions.{Home, InFrame, InGlobals, increment, decrement, moved, home, at_home, read, write, name_code, member_code, prefix_code, postfix_code, Shortcut, WhereTrue}
use Rattle.emission_rules.specs.Expressions.{WhereFalse, Never, shortcut, shortcut_labels, binary_code, is_set, read_first, cells_first, constants, result_room, call_line, argument_labels}
use Rattle.emission_rules.specs.Expressions.{argument_code, count_arguments, arguments_cells, emit, emit_all, labels, all_labels}
use Rattle.emission_rules.specs.Statements.{Exits, no_exits, in_loop, in_switch, some_labels, evaluated, tested, returned, initial, names_labels, emit_names, is_label, count_labels, behind, test_of}
use Rattle.emission_rules.specs.Statements.{tests, is_default, otherwise, placed, placed_on, stmt_labels, all_stmt_labels, emit_stmt, emit_stmts}
use Rattle.emission_rules.specs.Units.{unit_code, has_globals, body_count, functions_labels, emit_function, emit_functions, globals_labels, emit_globals, entry_call, start_labels, emit_start}
use Rattle.nwq_value.specs.Engine.{IsConstant}
use Rattle.emission_rules.specs.Bounds.{frame_limit, weight, all_weight, some_weight, names_weight, stmt_weight, all_stmt_weight, globals_weight, IsCell, IsType, IsCallee, IsOperator, IsExpr}
use Rattle.emission_rules.specs.Bounds.{AreExprs, IsSome, AreNames, IsStmt, AreStmts, AreItems, IsEntry, IsBounded}
use Rattle.emission_rules.specs.Laws.{IsWhole}
use Rattle.emission_rules.proofs.Labels.{unit_placed}

-- ---- instructions

offset_fits : (n : ℕ) → n < 2 ^ 29 → FitsSigned w32 (beneath n)
offset_fits n f = search (rules, arith)

-- an instruction that leads nowhere else and stores no state
record Emits (whole : List Line) (op : PlainOp) : Type 0 where
  is_op : IsOp op
  led : IsLed whole (Instruction op)
  state : is_state (Instruction op) ≡ false

module _ (whole : List Line) where
  read_emits : (l : Layout) (depth count : ℕ) (h : Home) → depth < 2 ^ 29 → l.globals < 2 ^ 29 → count ≤ struct_cell_limit → Emits whole (read l depth count h)
  unfolding has_type
  read_emits l depth count (InFrame at) d g c = record {
    is_op = record {
      row = record { kind = refl; sizes = tt };
      fits = (offset_fits (depth - at) (omega arith), omega arith);
    };
    led = tt;
    state = refl;
  }
  read_emits l depth count (InGlobals at) d g c = record {
    is_op = record {
      row = record { kind = refl; sizes = tt };
      fits = (offset_fits (l.globals - at) (omega arith), omega arith);
    };
    led = tt;
    state = refl;
  }

  write_emits : (l : Layout) (depth count : ℕ) (h : Home) → depth < 2 ^ 29 → l.globals < 2 ^ 29 → count ≤ struct_cell_limit → Emits whole (write l depth count h)
  unfolding has_type
  write_emits l depth count
      (InFrame at) d g c = record {
        is_op = record {
          row = record { kind = refl; sizes = tt };
          fits = (offset_fits (depth - at) (omega arith), omega arith);
        };
        led = tt;
        state = refl;
      }
  write_emits l depth count
      (InGlobals at) d g c = record {
        is_op = record {
          row = record { kind = refl; sizes = tt };
          fits = (offset_fits (l.globals - at) (omega arith), omega arith);
        };
        led = tt;
        state = refl;
      }

  increment_emits : (l : Layout) (depth : ℕ) (h : Home) → depth < 2 ^ 29 → l.globals < 2 ^ 29 → Emits whole (increment l depth h)
  unfolding has_type
  increment_emits l depth (InFrame at) d g = record { is_op = record { row = record { kind = refl; sizes = tt }; fits = offset_fits (depth - at) (omega arith) }; led = tt; state = refl }
  increment_emits l depth (InGlobals at) d g = record { is_op = record { row = record { kind = refl; sizes = tt }; fits = offset_fits (l.globals - at) (omega arith) }; led = tt; state = refl }

  decrement_emits : (l : Layout) (depth : ℕ) (h : Home) → depth < 2 ^ 29 → l.globals < 2 ^ 29 → Emits whole (decrement l depth h)
  unfolding has_type
  decrement_emits l depth (InFrame at) d g = record { is_op = record { row = record { kind = refl; sizes = tt }; fits = offset_fits (depth - at) (omega arith) }; led = tt; state = refl }
  decrement_emits l depth (InGlobals at) d g = record { is_op = record { row = record { kind = refl; sizes = tt }; fits = offset_fits (l.globals - at) (omega arith) }; led = tt; state = refl }

  dropping_emits : (n : ℕ) → n < 2 ^ 29 → Emits whole (ops.MovSp (beneath n))
  unfolding has_type
  dropping_emits n f = record { is_op = record { row = record { kind = refl; sizes = tt }; fits = offset_fits n f }; led = tt; state = refl }

  storing_emits : (n count : ℕ) → n < 2 ^ 29 → count ≤ struct_cell_limit → Emits whole (ops.CpDownSp (beneath n) (bytes_of count))
  unfolding has_type
  storing_emits n count f c = record { is_op = record { row = record { kind = refl; sizes = tt }; fits = (offset_fits n f, omega arith) }; led = tt; state = refl }

  copying_emits : Emits whole (ops.CpTopSp (beneath 1) (bytes_of 1))
  unfolding has_type
  copying_emits = record { is_op = record { row = record { kind = refl; sizes = tt }; fits = (offset_fits 1 (omega arith), omega arith) }; led = tt; state = refl }

  cutting_emits : (total offset count : ℕ) → total ≤ struct_cell_limit → offset ≤ struct_cell_limit → count ≤ struct_cell_limit
      → Emits whole (ops.Destruct (bytes_of total) (bytes_of offset) (bytes_of count))
  unfolding has_type
  cutting_emits total offset count f g h = record { is_op = record { row = record { kind = refl; sizes = tt }; fits = (omega arith, omega arith, omega arith) }; led = tt; state = refl }

  int_emits : (n : ℤ) → FitsSigned w32 n → Emits whole (ops.Const (ops.Int n))
  unfolding has_type
  int_emits n f = record { is_op = record { row = record { kind = refl; sizes = tt }; fits = f }; led = tt; state = refl }

  one_emits : Emits whole (ops.Const (ops.Int (pos 1)))
  one_emits = int_emits (pos 1) (search (rules, arith))

  constant_emits : (k : Const) → IsConstant k → Emits whole (ops.Const (literal_of k))
  unfolding has_type
  constant_emits (const.Int n) f = int_emits n f
  constant_emits (const.Text bytes) f = record { is_op = record { row = record { kind = refl; sizes = let few = f.0 in omega arith }; fits = f.1 }; led = tt; state = refl }
  constant_emits const.SelfObject f = record { is_op = record { row = record { kind = refl; sizes = tt }; fits = omega arith }; led = tt; state = refl }
  constant_emits const.InvalidObject f = record { is_op = record { row = record { kind = refl; sizes = tt }; fits = omega arith }; led = tt; state = refl }

  cell_emits : (t : Ty) → IsCell t → Emits whole (ops.RsAdd (cell_kind t))
  unfolding has_type
  cell_emits Void f = absurd f
  cell_emits Int f = record { is_op = record { row = record { kind = refl; sizes = tt }; fits = omega arith }; led = tt; state = refl }
  cell_emits Text f = record { is_op = record { row = record { kind = refl; sizes = tt }; fits = omega arith }; led = tt; state = refl }
  cell_emits Object f = record { is_op = record { row = record { kind = refl; sizes = tt }; fits = omega arith }; led = tt; state = refl }
  cell_emits Effect f = record { is_op = record { row = record { kind = refl; sizes = tt }; fits = omega arith }; led = tt; state = refl }
  cell_emits Event f = record { is_op = record { row = record { kind = refl; sizes = tt }; fits = omega arith }; led = tt; state = refl }
  cell_emits Action f = absurd f
  cell_emits (Struct n) f = absurd f
  cell_emits Refused f = absurd f

  sum_emits : (t : Ty) → Emits whole (ops.Add (sum_kind t))
  unfolding has_type
  sum_emits Void = record { is_op = record { row = record { kind = refl; sizes = tt }; fits = omega arith }; led = tt; state = refl }
  sum_emits Int = record { is_op = record { row = record { kind = refl; sizes = tt }; fits = omega arith }; led = tt; state = refl }
  sum_emits Text = record { is_op = record { row = record { kind = refl; sizes = tt }; fits = omega arith }; led = tt; state = refl }
  sum_emits Object = record { is_op = record { row = record { kind = refl; sizes = tt }; fits = omega arith }; led = tt; state = refl }
  sum_emits Effect = record { is_op = record { row = record { kind = refl; sizes = tt }; fits = omega arith }; led = tt; state = refl }
  sum_emits Event = record { is_op = record { row = record { kind = refl; sizes = tt }; fits = omega arith }; led = tt; state = refl }
  sum_emits Action = record { is_op = record { row = record { kind = refl; sizes = tt }; fits = omega arith }; led = tt; state = refl }
  sum_emits (Struct n) = record { is_op = record { row = record { kind = refl; sizes = tt }; fits = omega arith }; led = tt; state = refl }
  sum_emits Refused = record { is_op = record { row = record { kind = refl; sizes = tt }; fits = omega arith }; led = tt; state = refl }

  -- only two structs have a size
  operation_emits : (o : BinaryOperator) (t : Ty) (count : ℕ) → IsOperator o t → count ≤ struct_cell_limit → Emits whole (operation o t count)
  unfolding has_type
  operation_emits bin.Equal Void count f c = absurd cc
  operation_emits bin.Equal Int count f c = record { is_op = record { row = record { kind = refl; sizes = λ h. refl }; fits = (omega arith, omega arith) }; led = tt; state = refl }
  operation_emits bin.Equal Text count f c = record { is_op = record { row = record { kind = refl; sizes = λ h. refl }; fits = (omega arith, omega arith) }; led = tt; state = refl }
  operation_emits bin.Equal Object count f c = record { is_op = record { row = record { kind = refl; sizes = λ h. refl }; fits = (omega arith, omega arith) }; led = tt; state = refl }
  operation_emits bin.Equal Effect count f c = record { is_op = record { row = record { kind = refl; sizes = λ h. refl }; fits = (omega arith, omega arith) }; led = tt; state = refl }
  operation_emits bin.Equal Event count f c = record { is_op = record { row = record { kind = refl; sizes = λ h. refl }; fits = (omega arith, omega arith) }; led = tt; state = refl }
  operation_emits bin.Equal Action count f c = absurd cc
  operation_emits bin.Equal (Struct n) count f c = record { is_op = record { row = record { kind = refl; sizes = λ h. absurd (h refl) }; fits = (omega arith, omega arith) }; led = tt; state = refl }
  operation_emits bin.Equal Refused count f c = absurd cc
  operation_emits bin.NotEqual Void count f c = absurd cc
  operation_emits bin.NotEqual Int count f c = record { is_op = record { row = record { kind = refl; sizes = λ h. refl }; fits = (omega arith, omega arith) }; led = tt; state = refl }
  operation_emits bin.NotEqual Text count f c = record { is_op = record { row = record { kind = refl; sizes = λ h. refl }; fits = (omega arith, omega arith) }; led = tt; state = refl }
  operation_emits bin.NotEqual Object count f c = record { is_op = record { row = record { kind = refl; sizes = λ h. refl }; fits = (omega arith, omega arith) }; led = tt; state = refl }
  operation_emits bin.NotEqual Effect count f c = record { is_op = record { row = record { kind = refl; sizes = λ h. refl }; fits = (omega arith, omega arith) }; led = tt; state = refl }
  operation_emits bin.NotEqual Event count f c = record { is_op = record { row = record { kind = refl; sizes = λ h. refl }; fits = (omega arith, omega arith) }; led = tt; state = refl }
  operation_emits bin.NotEqual Action count f c = absurd cc
  operation_emits bin.NotEqual
      (Struct n) count f c = record {
        is_op = record {
          row = record { kind = refl; sizes = λ h. absurd (h refl) };
          fits = (omega arith, omega arith);
        };
        led = tt;
        state = refl;
      }
  operation_emits bin.NotEqual Refused count f c = absurd cc
  operation_emits bin.Or t count f c = record { is_op = record { row = record { kind = refl; sizes = tt }; fits = tt }; led = tt; state = refl }
  operation_emits bin.And t count f c = record { is_op = record { row = record { kind = refl; sizes = tt }; fits = tt }; led = tt; state = refl }
  operation_emits bin.BitOr t count f c = record { is_op = record { row = record { kind = refl; sizes = tt }; fits = tt }; led = tt; state = refl }
  operation_emits bin.BitXor t count f c = record { is_op = record { row = record { kind = refl; sizes = tt }; fits = tt }; led = tt; state = refl }
  operation_emits bin.BitAnd t count f c = record { is_op = record { row = record { kind = refl; sizes = tt }; fits = tt }; led = tt; state = refl }
  operation_emits bin.GreaterOrEqual t count f c = record { is_op = record { row = record { kind = refl; sizes = tt }; fits = omega arith }; led = tt; state = refl }
  operation_emits bin.Greater t count f c = record { is_op = record { row = record { kind = refl; sizes = tt }; fits = omega arith }; led = tt; state = refl }
  operation_emits bin.Less t count f c = record { is_op = record { row = record { kind = refl; sizes = tt }; fits = omega arith }; led = tt; state = refl }
  operation_emits bin.LessOrEqual t count f c = record { is_op = record { row = record { kind = refl; sizes = tt }; fits = omega arith }; led = tt; state = refl }
  operation_emits bin.ShiftLeft t count f c = record { is_op = record { row = record { kind = refl; sizes = tt }; fits = tt }; led = tt; state = refl }
  operation_emits bin.ShiftRight t count f c = record { is_op = record { row = record { kind = refl; sizes = tt }; fits = tt }; led = tt; state = refl }
  operation_emits bin.UnsignedShiftRight t count f c = record { is_op = record { row = record { kind = refl; sizes = tt }; fits = tt }; led = tt; state = refl }
  operation_emits bin.Add t count f c = sum_emits t
  operation_emits bin.Subtract t count f c = record { is_op = record { row = record { kind = refl; sizes = tt }; fits = omega arith }; led = tt; state = refl }
  operation_emits bin.Multiply t count f c = record { is_op = record { row = record { kind = refl; sizes = tt }; fits = omega arith }; led = tt; state = refl }
  operation_emits bin.Divide t count f c = record { is_op = record { row = record { kind = refl; sizes = tt }; fits = omega arith }; led = tt; state = refl }
  operation_emits bin.Remainder t count f c = record { is_op = record { row = record { kind = refl; sizes = tt }; fits = tt }; led = tt; state = refl }

-- ---- lists of lines

abbrev has_line : List Line → Bool
has_line [] = false
has_line (line ∷ lines) = true

record Ended (lines : List Line) : Type 0 where
  closes : Closes lines
  some : has_line lines ≡ true

ended_more : (line : Line) (lines : List Line) → Ended lines → Ended (line ∷ lines)
ended_more line [] f = absurd cc
ended_more line (next ∷ lines) f = record { closes = f.closes; some = refl }

ended_behind : (xs ys : List Line) → Ended ys → Ended (xs ++ ys)
ended_behind [] ys f = f
ended_behind (x ∷ xs) ys f = ended_more x (xs ++ ys) (ended_behind xs ys f)

all_both : (P : Line → Type 0) (xs ys : List Line) → AllByRecursion P xs → AllByRecursion P ys → AllByRecursion P (xs ++ ys)
all_both P [] ys f g = g
all_both P (x ∷ xs) ys f g = (f.0, all_both P xs ys f.1 g)

-- ---- cells that are declared

names_few : (bodies : ℕ) (l : Layout) (xs : List TypedName) → AreNames bodies l xs → names_cells l.structs xs ≤ names_weight xs
names_few bodies l [] are = omega arith
names_few bodies l (x ∷ xs) are = omega (arith, are.0.few, names_few bodies l xs are.2)

globals_few : (bodies : ℕ) (l : Layout) (is : List TypedItem) → AreItems bodies l is → global_cells l.structs is ≤ globals_weight is
globals_few bodies l [] are = omega arith
globals_few bodies l (structure i x ls ∷ is) are = omega (arith, globals_few bodies l is are)
globals_few bodies l (constant i t x v ∷ is) are = omega (arith, globals_few bodies l is are)
globals_few bodies l (function i t x ps None ∷ is) are = omega (arith, globals_few bodies l is are)
globals_few bodies l (function i t x ps (Some body) ∷ is) are = omega (arith, globals_few bodies l is are.2)
globals_few bodies l (global i t xs ∷ is) are = omega (arith, names_few bodies l xs are.0, globals_few bodies l is are.1)

-- ---- code that fits the whole

module _ (lead : BothLeadOn) (whole : List Line) (total bodies : ℕ) (l : Layout) (has_place : (k : ℕ) → k < total → 1 ≤ placements whole k)
    (few : bodies ≤ total) (shallow : l.globals ≤ frame_limit) where
  record Good (lines : List Line) : Type 0 where
    fits : AllByRecursion (LineFits total) lines
    leads : LeadsOn whole lines

  good_end : Good []
  good_end = record { fits = tt; leads = record { jumps = tt; states = tt } }

  good_both : {xs ys : List Line} → Good xs → Good ys → Good (xs ++ ys)
  good_both {xs = xs} {ys = ys} f g = record { fits = all_both (LineFits total) xs ys f.fits g.fits; leads = lead whole xs ys f.leads g.leads }

  good_op : {op : PlainOp} {lines : List Line} → Emits whole op → Good lines → Good (Instruction op ∷ lines)
  good_op f g = let no = f.state in record {
    fits = (f.is_op, g.fits);
    leads = record { jumps = (f.led, g.leads.jumps); states = (λ h. absurd cc, g.leads.states) };
  }

  good_jump : {lines : List Line} (kind : Jump) (k : ℕ) → k < total → Good lines → Good (JumpTo kind k ∷ lines)
  good_jump kind k lt g = record { fits = (lt, g.fits); leads = record { jumps = (has_place k lt, g.leads.jumps); states = (λ h. absurd cc, g.leads.states) } }

  good_label : {lines : List Line} (k : ℕ) → k < total → Good lines → Good (Label k ∷ lines)
  good_label k lt g = record { fits = (lt, g.fits); leads = record { jumps = (tt, g.leads.jumps); states = (λ h. absurd cc, g.leads.states) } }

  -- a state is stored in front of a jump
  good_state : {lines : List Line} (depth k : ℕ) → depth ≤ frame_limit → k < total → Good lines
      → Good (Instruction (ops.StoreState (bytes_of l.globals) (bytes_of depth)) ∷ JumpTo Jmp k ∷ lines)
  unfolding has_type
  good_state depth k d lt g = record {
    fits = (record { row = record { kind = refl; sizes = tt }; fits = (omega arith, omega arith) }, (lt, g.fits));
    leads = record { jumps = (tt, (has_place k lt, g.leads.jumps)); states = (λ h. refl, (λ h. absurd cc, g.leads.states)) };
  }

  good_return : Good (Instruction ops.Retn ∷ [])
  unfolding has_type
  good_return = good_op (record { is_op = record { row = record { kind = refl; sizes = tt }; fits = tt }; led = tt; state = refl }) good_end

  dropped_good : (n : ℕ) → n < 2 ^ 29 → Good (dropped n)
  dropped_good zero f = good_end
  dropped_good (suc n) f = good_op (dropping_emits whole (suc n) f) good_end

  started_good : (ts : List Ty) → AllByRecursion IsCell ts → Good (started ts)
  started_good [] f = good_end
  started_good (t ∷ ts) f = good_op (cell_emits whole t f.0) (started_good ts f.1)

  constants_good : (ks : List Const) → AllByRecursion IsConstant ks → Good (constants ks)
  constants_good [] f = good_end
  constants_good (k ∷ ks) f = good_both (constants_good ks f.1) (good_op (constant_emits whole k f.0) good_end)

  home_good : (op : Home → PlainOp) (h : Option Home) → ((g : Home) → Emits whole (op g)) → Good (at_home op h)
  home_good op None f = good_end
  home_good op (Some g) f = good_op (f g) good_end

  first_good : (b : Bool) (op : Home → PlainOp) (h : Option Home) → ((g : Home) → Emits whole (op g)) → Good (read_first b (at_home op h))
  first_good true op h f = good_end
  first_good false op h f = home_good op h f

  combination_good : (o : AssignOperator) (t : Ty) → Good (combination o t)
  unfolding has_type
  combination_good asg.Set t = good_end
  combination_good asg.Add t = good_op (sum_emits whole t) good_end
  combination_good asg.Subtract t = good_op (record { is_op = record { row = record { kind = refl; sizes = tt }; fits = omega arith }; led = tt; state = refl }) good_end
  combination_good asg.Multiply t = good_op (record { is_op = record { row = record { kind = refl; sizes = tt }; fits = omega arith }; led = tt; state = refl }) good_end
  combination_good asg.Divide t = good_op (record { is_op = record { row = record { kind = refl; sizes = tt }; fits = omega arith }; led = tt; state = refl }) good_end
  combination_good asg.Remainder t = good_op (record { is_op = record { row = record { kind = refl; sizes = tt }; fits = tt }; led = tt; state = refl }) good_end
  combination_good asg.BitAnd t = good_op (record { is_op = record { row = record { kind = refl; sizes = tt }; fits = tt }; led = tt; state = refl }) good_end
  combination_good asg.BitOr t = good_op (record { is_op = record { row = record { kind = refl; sizes = tt }; fits = tt }; led = tt; state = refl }) good_end
  combination_good asg.BitXor t = good_op (record { is_op = record { row = record { kind = refl; sizes = tt }; fits = tt }; led = tt; state = refl }) good_end
  combination_good asg.ShiftLeft t = good_op (record { is_op = record { row = record { kind = refl; sizes = tt }; fits = tt }; led = tt; state = refl }) good_end
  combination_good asg.ShiftRight t = good_op (record { is_op = record { row = record { kind = refl; sizes = tt }; fits = tt }; led = tt; state = refl }) good_end
  combination_good asg.UnsignedShiftRight t = good_op (record { is_op = record { row = record { kind = refl; sizes = tt }; fits = tt }; led = tt; state = refl }) good_end

  called_good : (f : Callee) (count : ℕ) → IsCallee bodies count f → Good (call_line f count ∷ [])
  unfolding has_type
  called_good (InUnit f) count is = good_jump Jsr f (omega arith) good_end
  called_good (Engine routine) count is = good_op
      (record {
        is_op = record {
          row = record { kind = refl; sizes = tt };
          fits = (omega (arith, is.0), omega (arith, is.1));
        };
        led = tt;
        state = refl;
      }) good_end

  name_good : (depth : ℕ) (t : Ty) (p : Place) → IsExpr bodies l (name t p) → depth < 2 ^ 29 → Good (name_code l depth t p)
  name_good depth t (Local n) is d = good_op (read_emits whole l depth (cells l.structs t) (InFrame _) d (omega arith) is.0.few) good_end
  name_good depth t (Global n) is d = good_op (read_emits whole l depth (cells l.structs t) (InGlobals _) d (omega arith) is.0.few) good_end
  name_good depth t (IsConst k) is d = good_op (constant_emits whole k is.1) good_end

  member_good : (depth total' offset count : ℕ) (h : Option Home) (value : List Line) → depth < 2 ^ 29 → total' ≤ struct_cell_limit → offset ≤ struct_cell_limit → count ≤ struct_cell_limit
      → Good value → Good (member_code l depth total' offset count h value)
  member_good depth total' offset count None value d t o c f = good_both f (good_op (cutting_emits whole total' offset count t o c) good_end)
  member_good depth total' offset count (Some h) value d t o c f = good_op (read_emits whole l depth count (moved offset h) d (omega arith) c) good_end

  prefix_good : (depth : ℕ) (o : PrefixOperator) (h : Option Home) (value : List Line) → depth < 2 ^ 29 → Good value → Good (prefix_code l depth o h value)
  unfolding has_type
  prefix_good depth pre.Minus h value d f = good_both f (good_op (record { is_op = record { row = record { kind = refl; sizes = tt }; fits = omega arith }; led = tt; state = refl }) good_end)
  prefix_good depth pre.Complement h value d f = good_both f (good_op (record { is_op = record { row = record { kind = refl; sizes = tt }; fits = tt }; led = tt; state = refl }) good_end)
  prefix_good depth pre.Not h value d f = good_both f (good_op (record { is_op = record { row = record { kind = refl; sizes = tt }; fits = tt }; led = tt; state = refl }) good_end)
  prefix_good depth pre.Increment h value d f = good_both (home_good (increment l depth) h (λ g. increment_emits whole l depth g d (omega arith))) f
  prefix_good depth pre.Decrement h value d f = good_both (home_good (decrement l depth) h (λ g. decrement_emits whole l depth g d (omega arith))) f

  postfix_good : (depth : ℕ) (o : PostfixOperator) (h : Option Home) (value : List Line) → depth + 1 < 2 ^ 29 → Good value → Good (postfix_code l depth o h value)
  postfix_good depth post.Increment h value d f = good_both f (home_good (increment l (depth + 1)) h (λ g. increment_emits whole l (depth + 1) g d (omega arith)))
  postfix_good depth post.Decrement h value d f = good_both f (home_good (decrement l (depth + 1)) h (λ g. decrement_emits whole l (depth + 1) g d (omega arith)))

  binary_good : (n : ℕ) (s : Shortcut) (op : PlainOp) (left right : List Line) → n + shortcut_labels s ≤ total → Emits whole op → Good left → Good right → Good (binary_code n s op left right)
  binary_good n WhereTrue op left right few e f g =
      good_both f (good_op (copying_emits whole) (good_jump Jz n (omega arith) (good_op (one_emits whole) (good_op e (good_jump Jmp (n + 1) (omega arith)
      (good_label n (omega arith) (good_both g (good_op e (good_label (n + 1) (omega arith) good_end)))))))))
  binary_good n WhereFalse op left right few e f g =
      good_both f (good_op (copying_emits whole) (good_jump Jz n (omega arith) (good_both g (good_op e (good_label n (omega arith) good_end)))))
  binary_good n Never op left right few e f g = good_both f (good_both g (good_op e good_end))

  argument_good : (n depth : ℕ) (b : Bool) (value : List Line) → n + argument_labels b ≤ total → depth ≤ frame_limit → Good value → Good (argument_code l n depth b value)
  argument_good n depth true value few d f = good_state depth n d (omega arith) (good_both f (good_both good_return (good_label n (omega arith) good_end)))
  argument_good n depth false value few d f = f

  -- ---- expressions

  const_cells : (k : Const) → cells l.structs (type_of (literal k)) ≤ struct_cell_limit
  const_cells (const.Int n) = omega arith
  const_cells (const.Text bytes) = omega arith
  const_cells const.SelfObject = omega arith
  const_cells const.InvalidObject = omega arith

  few_cells : (x : TypedExpr) → IsExpr bodies l x → cells l.structs (type_of x) ≤ struct_cell_limit
  few_cells (literal k) is = const_cells k
  few_cells (name t p) is = is.0.few
  few_cells (call t f xs ks) is = is.0.few
  few_cells (member t x offset) is = is.0.few
  few_cells (prefix t o x) is = is.0.few
  few_cells (postfix t o x) is = is.0.few
  few_cells (binary t o x y) is = is.0.few
  few_cells (assign t o x y) is = is.0.few

  some_weighs : (x : TypedExpr) → struct_cell_limit ≤ weight x
  some_weighs (literal k) = omega arith
  some_weighs (name t p) = omega arith
  some_weighs (call t f xs ks) = omega arith
  some_weighs (member t x offset) = omega arith
  some_weighs (prefix t o x) = omega arith
  some_weighs (postfix t o x) = omega arith
  some_weighs (binary t o x y) = omega arith
  some_weighs (assign t o x y) = omega arith

  arguments_few : (xs : TypedExprs) → AreExprs bodies l xs → arguments_cells l xs ≤ all_weight xs
  arguments_few no_typed are = omega arith
  arguments_few (more_typed x xs) are = omega (arith, few_cells x are.0, some_weighs x, arguments_few xs are.1)

  room_few : (f : Callee) (t : Ty) → IsType l t → length (result_room l f t) ≤ struct_cell_limit
  room_few (InUnit f) t is = is.few
  room_few (Engine routine) t is = omega arith

  room_good : (f : Callee) (t : Ty) → IsType l t → Good (started (result_room l f t))
  room_good (InUnit f) t is = started_good (cell_types l.structs t) is.kinds
  room_good (Engine routine) t is = good_end

  first_few : (b : Bool) (count : ℕ) → cells_first b count ≤ count
  first_few true count = omega arith
  first_few false count = omega arith

  mutual
    emit_good : (n depth : ℕ) (x : TypedExpr) → IsExpr bodies l x → n + labels x ≤ total → depth + weight x ≤ frame_limit → Good (emit l n depth x)
    emit_good n depth (literal k) is few d = good_op (constant_emits whole k is) good_end
    emit_good n depth (name t p) is few d = name_good depth t p is (omega arith)
    emit_good n depth (call t f xs ks) is few d =
        good_both (room_good f t is.0) (good_both (constants_good ks is.2)
        (good_both (all_good n (depth + length (result_room l f t) + length ks) xs is.3 few (omega (arith, room_few f t is.0))) (called_good f (count_arguments xs + length ks) is.1)))
    emit_good n depth (member t x offset) is few d =
        member_good depth (cells l.structs (type_of x)) offset (cells l.structs t) (home l x) (emit l n depth x) (omega arith) is.1.few is.2 is.0.few
        (emit_good n depth x is.3 few (omega arith))
    emit_good n depth (prefix t o x) is few d = prefix_good depth o (home l x) (emit l n depth x) (omega arith) (emit_good n depth x is.1 few (omega arith))
    emit_good n depth (postfix t o x) is few d = postfix_good depth o (home l x) (emit l n depth x) (omega arith) (emit_good n depth x is.1 few (omega arith))
    emit_good n depth (binary t o x y) is few d =
        binary_good n (shortcut o) (operation o (type_of x) (cells l.structs (type_of x))) _ _ (omega arith) (operation_emits whole o (type_of x) (cells l.structs (type_of x)) is.2 is.1.few)
        (emit_good (n + shortcut_labels (shortcut o)) depth x is.3 (omega arith) (omega arith))
        (emit_good (n + shortcut_labels (shortcut o) + labels x) (depth + cells l.structs (type_of x)) y is.4 (omega arith) (omega (arith, is.1.few, some_weighs x)))
    emit_good n depth (assign t o x y) is few d =
        good_both (first_good (is_set o) (read l depth (cells l.structs t)) (home l x) (λ g. read_emits whole l depth (cells l.structs t) g (omega arith) (omega arith) is.0.few))
        (good_both (emit_good n (depth + cells_first (is_set o) (cells l.structs t)) y is.2 few (omega (arith, first_few (is_set o) (cells l.structs t), is.0.few)))
        (good_both (combination_good o t) (home_good (write l (depth + cells l.structs t) (cells l.structs t)) (home l x)
        (λ g. write_emits whole l (depth + cells l.structs t) (cells l.structs t) g (omega (arith, is.0.few)) (omega arith) is.0.few))))

    all_good : (n depth : ℕ) (xs : TypedExprs) → AreExprs bodies l xs → n + all_labels xs ≤ total → depth + all_weight xs ≤ frame_limit → Good (emit_all l n depth xs)
    all_good n depth no_typed are few d = good_end
    all_good n depth (more_typed x xs) are few d =
        good_both (all_good n depth xs are.1 (omega arith) (omega arith))
        (argument_good (n + all_labels xs) (depth + arguments_cells l xs) (is_captured x) _ (omega arith) (omega (arith, arguments_few xs are.1))
        (emit_good (n + all_labels xs + argument_labels (is_captured x)) (depth + arguments_cells l xs) x are.0 (omega arith) (omega (arith, arguments_few xs are.1))))

  -- ---- parts of statements

  evaluated_good : (n depth : ℕ) (x : Option TypedExpr) → IsSome bodies l x → n + some_labels x ≤ total → depth + some_weight x ≤ frame_limit → Good (evaluated l n depth x)
  evaluated_good n depth None is few d = good_end
  evaluated_good n depth (Some x) is few d = good_both (emit_good n depth x is few d) (dropped_good (cells l.structs (type_of x)) (omega (arith, few_cells x is)))

  tested_good : (n depth : ℕ) (x : Option TypedExpr) → IsSome bodies l x → n + some_labels x ≤ total → depth + some_weight x ≤ frame_limit → Good (tested l n depth x)
  tested_good n depth None is few d = good_op (one_emits whole) good_end
  tested_good n depth (Some x) is few d = emit_good n depth x is few d

  returned_good : (n depth : ℕ) (x : Option TypedExpr) → IsSome bodies l x → n + some_labels x ≤ total → depth + some_weight x ≤ frame_limit → Good (returned l n depth x)
  returned_good n depth None is few d = dropped_good depth (omega arith)
  returned_good n depth (Some x) is few d =
      good_both (emit_good n depth x is few d)
      (good_op (storing_emits whole (depth + 2 * cells l.structs (type_of x)) (cells l.structs (type_of x)) (omega (arith, few_cells x is)) (few_cells x is))
      (dropped_good (depth + cells l.structs (type_of x)) (omega (arith, few_cells x is))))

  initial_good : (n depth : ℕ) (t : Ty) (x : Option TypedExpr) → IsType l t → IsSome bodies l x → n + some_labels x ≤ total → depth + some_weight x ≤ frame_limit → Good (initial l n depth t x)
  initial_good n depth t None of is few d = started_good (cell_types l.structs t) of.kinds
  initial_good n depth t (Some x) of is few d = emit_good n depth x is few d

  names_good : (n depth : ℕ) (xs : List TypedName) → AreNames bodies l xs → n + names_labels xs ≤ total → depth + names_weight xs ≤ frame_limit → Good (emit_names l n depth xs)
  names_good n depth [] are few d = good_end
  names_good n depth (x ∷ xs) are few d =
      good_both (initial_good n depth x.name.ty x.value are.0 are.1 (omega arith) (omega arith))
      (names_good (n + some_labels x.value) (depth + cells l.structs x.name.ty) xs are.2 (omega arith) (omega (arith, are.0.few)))

  declared_few : (b c : Bool) (x : TypedStmt) → IsStmt bodies l b c x → declared_cells l.structs x ≤ stmt_weight x
  declared_few p q (block m xs) is = omega arith
  declared_few p q (empty m) is = omega arith
  declared_few p q (expression m e) is = omega arith
  declared_few p q (if_only m e a) is = omega arith
  declared_few p q (if_else m e a b) is = omega arith
  declared_few p q (while_loop m e a) is = omega arith
  declared_few p q (do_loop m a e) is = omega arith
  declared_few p q (for_loop m x y z a) is = omega arith
  declared_few p q (switch m e xs) is = omega arith
  declared_few p q (break_off m) is = omega arith
  declared_few p q (continue_on m) is = omega arith
  declared_few p q (return_from m e) is = omega arith
  declared_few p q (declaration m t xs) is = names_few bodies l xs is
  declared_few p q (case_label m k) is = omega arith
  declared_few p q (default_label m) is = omega arith

  all_declared_few : (b c : Bool) (xs : TypedStmts) → AreStmts bodies l b c xs → all_declared_cells l.structs xs ≤ all_stmt_weight xs
  all_declared_few b c no_stmt are = omega arith
  all_declared_few b c (more_stmts x xs) are = omega (arith, declared_few b c x are.0, all_declared_few b c xs are.1)

  -- ---- the labels of a switch

  -- these labels and the ones behind them are below the whole number
  abbrev AtFits : Option ℕ → TypedStmts → Type 0
  AtFits None xs = Unit {0}
  AtFits (Some k) xs = k + count_labels xs ≤ total

  step_below : (b : Bool) (k c : ℕ) → k + cond b (1 + c) c ≤ total → cond b (k + 1) k + c ≤ total
  step_below true k c f = omega arith
  step_below false k c f = f

  on_fits : (at : Option ℕ) (x : TypedStmt) (xs : TypedStmts) → AtFits at (more_stmts x xs) → AtFits (placed_on at x) xs
  on_fits None x xs f = tt
  on_fits (Some k) x xs f = step_below (is_label x) k (count_labels xs) f

  label_good : (b : Bool) (k c : ℕ) → k + cond b (1 + c) c ≤ total → Good (cond b (Label k ∷ []) [])
  label_good true k c f = good_label k (omega arith) good_end
  label_good false k c f = good_end

  placed_good : (at : Option ℕ) (x : TypedStmt) (xs : TypedStmts) → AtFits at (more_stmts x xs) → Good (placed at x)
  placed_good None x xs f = good_end
  placed_good (Some k) x xs f = label_good (is_label x) k (count_labels xs) f

  test_good : (b c : Bool) (k count : ℕ) (x : TypedStmt) → IsStmt bodies l b c x → k + cond (is_label x) (1 + count) count ≤ total → Good (test_of k x)
  unfolding has_type
  test_good p q k count (block m xs) is f = good_end
  test_good p q k count (empty m) is f = good_end
  test_good p q k count (expression m e) is f = good_end
  test_good p q k count (if_only m e a) is f = good_end
  test_good p q k count (if_else m e a b) is f = good_end
  test_good p q k count (while_loop m e a) is f = good_end
  test_good p q k count (do_loop m a e) is f = good_end
  test_good p q k count (for_loop m x y z a) is f = good_end
  test_good p q k count (switch m e xs) is f = good_end
  test_good p q k count (break_off m) is f = good_end
  test_good p q k count (continue_on m) is f = good_end
  test_good p q k count (return_from m e) is f = good_end
  test_good p q k count (declaration m t xs) is f = good_end
  test_good p q k count (case_label m v) is f =
      good_op (copying_emits whole)
      (good_op (constant_emits whole v is)
      (good_op (record {
        is_op = record {
          row = record { kind = refl; sizes = λ h. refl };
          fits = (omega arith, omega arith);
        };
        led = tt;
        state = refl;
      })
      (good_jump Jnz k (omega arith) good_end)))
  test_good p q k count (default_label m) is f = good_end

  tests_good : (b c : Bool) (k : ℕ) (xs : TypedStmts) → AreStmts bodies l b c xs → k + count_labels xs ≤ total → Good (tests k xs)
  tests_good b c k no_stmt are f = good_end
  tests_good b c k (more_stmts x xs) are f =
      good_both (test_good b c k (count_labels xs) x are.0 f) (tests_good b c (behind k x) xs are.1 (step_below (is_label x) k (count_labels xs) f))

  default_below : (k count : ℕ) (x : TypedStmt) → is_default x ≡ true → k + cond (is_label x) (1 + count) count ≤ total → k < total
  default_below k count (block m xs) is f = absurd cc
  default_below k count (empty m) is f = absurd cc
  default_below k count (expression m e) is f = absurd cc
  default_below k count (if_only m e a) is f = absurd cc
  default_below k count (if_else m e a b) is f = absurd cc
  default_below k count (while_loop m e a) is f = absurd cc
  default_below k count (do_loop m a e) is f = absurd cc
  default_below k count (for_loop m x y z a) is f = absurd cc
  default_below k count (switch m e xs) is f = absurd cc
  default_below k count (break_off m) is f = absurd cc
  default_below k count (continue_on m) is f = absurd cc
  default_below k count (return_from m e) is f = absurd cc
  default_below k count (declaration m t xs) is f = absurd cc
  default_below k count (case_label m v) is f = absurd cc
  default_below k count (default_label m) is f = omega arith

  either_below : (b : Bool) (m n : ℕ) → (b ≡ true → m < total) → n < total → cond b m n < total
  either_below true m n f g = f refl
  either_below false m n f g = g

  otherwise_below : (end k : ℕ) (xs : TypedStmts) → end < total → k + count_labels xs ≤ total → otherwise end k xs < total
  otherwise_below end k no_stmt e f = e
  otherwise_below end k (more_stmts x xs) e f =
      either_below (is_default x) k _ (λ is. default_below k (count_labels xs) x is f)
      (otherwise_below end (behind k x) xs e (step_below (is_label x) k (count_labels xs) f))

  -- ---- statements

  -- where `break` and `continue` may stand, they lead to labels that are there
  record Lead (b c : Bool) (out : Exits) : Type 0 where
    breaks : b ≡ true → out.break_to < total
    continues : c ≡ true → out.continue_to < total

  mutual
    stmt_good : (out : Exits) (n depth : ℕ) (b c : Bool) (x : TypedStmt) → IsStmt bodies l b c x → Lead b c out → n + stmt_labels x ≤ total → depth + stmt_weight x ≤ frame_limit
        → Good (emit_stmt l out n depth x)
    stmt_good out n depth b c (block i xs) is to few d =
        good_both (stmts_good out n depth b c None xs is to tt few d) (dropped_good (all_declared_cells l.structs xs) (omega (arith, all_declared_few b c xs is)))
    stmt_good out n depth b c (empty i) is to few d = good_end
    stmt_good out n depth b c (expression i x) is to few d =
        good_both (emit_good n depth x is few d) (dropped_good (cells l.structs (type_of x)) (omega (arith, few_cells x is)))
    stmt_good out n depth b c (if_only i x a) is to few d =
        good_both (emit_good (n + 1) depth x is.0 (omega arith) (omega arith)) (good_jump Jz n (omega arith)
        (good_both (stmt_good out (n + 1 + labels x) depth b c a is.1 to (omega arith) (omega arith)) (good_label n (omega arith) good_end)))
    stmt_good out n depth b c (if_else i x a e) is to few d =
        good_both (emit_good (n + 2) depth x is.0 (omega arith) (omega arith)) (good_jump Jz n (omega arith)
        (good_both (stmt_good out (n + 2 + labels x) depth b c a is.1 to (omega arith) (omega arith)) (good_jump Jmp (n + 1) (omega arith) (good_label n (omega arith)
        (good_both (stmt_good out (n + 2 + labels x + stmt_labels a) depth b c e is.2 to (omega arith) (omega arith)) (good_label (n + 1) (omega arith) good_end))))))
    stmt_good out n depth b c (while_loop i x a) is to few d =
        good_label n (omega arith) (good_both (emit_good (n + 2) depth x is.0 (omega arith) (omega arith)) (good_jump Jz (n + 1) (omega arith)
        (good_both (stmt_good (in_loop n (n + 1) depth) (n + 2 + labels x) depth true true a is.1 (record { breaks = λ h. omega arith; continues = λ h. omega arith }) (omega arith) (omega arith))
        (good_jump Jmp n (omega arith) (good_label (n + 1) (omega arith) good_end)))))
    stmt_good out n depth b c (do_loop i a x) is to few d =
        good_label n (omega arith)
        (good_both (stmt_good (in_loop (n + 1) (n + 2) depth) (n + 3) depth true true a is.0 (record { breaks = λ h. omega arith; continues = λ h. omega arith }) (omega arith) (omega arith))
        (good_label (n + 1) (omega arith) (good_both (emit_good (n + 3 + stmt_labels a) depth x is.1 (omega arith) (omega arith))
        (good_jump Jnz n (omega arith) (good_label (n + 2) (omega arith) good_end)))))
    stmt_good out n depth b c (for_loop i x y z a) is to few d =
        good_both (evaluated_good (n + 3) depth x is.0 (omega arith) (omega arith)) (good_label n (omega arith)
        (good_both (tested_good (n + 3 + some_labels x) depth y is.1 (omega arith) (omega arith)) (good_jump Jz (n + 2) (omega arith)
        (good_both (stmt_good (in_loop (n + 1) (n + 2) depth)
        (n + 3 + some_labels x + some_labels y) depth true true a is.3
        (record { breaks = λ h. omega arith; continues = λ h. omega arith }) (omega arith) (omega arith))
        (good_label (n + 1) (omega arith) (good_both (evaluated_good (n + 3 + some_labels x + some_labels y + stmt_labels a) depth z is.2 (omega arith) (omega arith))
        (good_jump Jmp n (omega arith) (good_label (n + 2) (omega arith) good_end))))))))
    stmt_good out n depth b c (switch i x xs) is to few d =
        good_both (emit_good (n + 1 + count_labels xs) depth x is.0 (omega arith) (omega arith))
        (good_both (tests_good true c (n + 1) xs is.1 (omega arith))
        (good_jump Jmp (otherwise n (n + 1) xs) (otherwise_below n (n + 1) xs (omega arith) (omega arith))
        (good_both (stmts_good (in_switch n (depth + 1) out) (n + 1 + count_labels xs + labels x) (depth + 1) true c (Some (n + 1)) xs is.1
        (record { breaks = λ h. omega arith; continues = to.continues }) (omega arith) (omega arith) (omega arith))
        (good_both (dropped_good (all_declared_cells l.structs xs) (omega (arith, all_declared_few true c xs is.1)))
        (good_label n (omega arith) (dropped_good 1 (omega arith)))))))
    stmt_good out n depth b c (break_off i) is to few d = good_both (dropped_good (depth - out.break_depth) (omega arith)) (good_jump Jmp out.break_to (to.breaks is) good_end)
    stmt_good out n depth b c (continue_on i) is to few d = good_both (dropped_good (depth - out.continue_depth) (omega arith)) (good_jump Jmp out.continue_to (to.continues is) good_end)
    stmt_good out n depth b c (return_from i x) is to few d = good_both (returned_good n depth x is few d) good_return
    stmt_good out n depth b c (declaration i t xs) is to few d = names_good n depth xs is few d
    stmt_good out n depth b c (case_label i k) is to few d = good_end
    stmt_good out n depth b c (default_label i) is to few d = good_end

    stmts_good : (out : Exits) (n depth : ℕ) (b c : Bool) (at : Option ℕ) (xs : TypedStmts) → AreStmts bodies l b c xs → Lead b c out → AtFits at xs → n + all_stmt_labels xs ≤ total
        → depth + all_stmt_weight xs ≤ frame_limit → Good (emit_stmts l out n depth at xs)
    stmts_good out n depth b c at no_stmt are to f few d = good_end
    stmts_good out n depth b c at (more_stmts x xs) are to f few d =
        good_both (placed_good at x xs f) (good_both (stmt_good out n depth b c x are.0 to (omega arith) (omega arith))
        (stmts_good out (n + stmt_labels x) (depth + declared_cells l.structs x) b c (placed_on at x) xs are.1 to (on_fits at x xs f) (omega arith) (omega (arith, declared_few b c x are.0))))

  -- ---- units

  no_lead : Lead false false no_exits
  no_lead = record { breaks = λ h. absurd cc; continues = λ h. absurd cc }

  function_good : (n f : ℕ) (ps : List TypedParameter) (body : TypedStmts) → AreStmts bodies l false false body → params_cells l.structs ps + all_stmt_weight body ≤ frame_limit
      → n + all_stmt_labels body ≤ total → f < total → Good (emit_function l n f ps body)
  function_good n f ps body are d few lt =
      good_label f lt (good_both (stmts_good no_exits n (params_cells l.structs ps) false false None body are no_lead tt few d)
      (good_both (dropped_good (all_declared_cells l.structs body) (omega (arith, all_declared_few false false body are)))
      (good_both (dropped_good (params_cells l.structs ps) (omega arith)) good_return)))

  functions_good : (n f : ℕ) (is : List TypedItem) → AreItems bodies l is → n + functions_labels is ≤ total → f + body_count is ≤ total → Good (emit_functions l n f is)
  functions_good n f [] are few some = good_end
  functions_good n f (structure i x ls ∷ is) are few some = functions_good n f is are few some
  functions_good n f (constant i t x v ∷ is) are few some = functions_good n f is are few some
  functions_good n f (global i t xs ∷ is) are few some = functions_good n f is are.1 few some
  functions_good n f (function i t x ps None ∷ is) are few some = functions_good n f is are few some
  functions_good n f (function i t x ps (Some body) ∷ is) are few some =
      good_both (function_good n f ps body are.0 are.1 (omega arith) (omega arith)) (functions_good (n + all_stmt_labels body) (f + 1) is are.2 (omega arith) (omega arith))

  globals_good : (n depth : ℕ) (is : List TypedItem) → AreItems bodies l is → n + globals_labels is ≤ total → depth + globals_weight is ≤ frame_limit → Good (emit_globals l n depth is)
  globals_good n depth [] are few d = good_end
  globals_good n depth (structure i x ls ∷ is) are few d = globals_good n depth is are few d
  globals_good n depth (constant i t x v ∷ is) are few d = globals_good n depth is are few d
  globals_good n depth (function i t x ps None ∷ is) are few d = globals_good n depth is are few d
  globals_good n depth (function i t x ps (Some body) ∷ is) are few d = globals_good n depth is are.2 few d
  globals_good n depth (global i t xs ∷ is) are few d =
      good_both (names_good n depth xs are.0 (omega arith) (omega arith))
      (globals_good (n + names_labels xs) (depth + item_cells l.structs (global i t xs)) is are.1 (omega arith) (omega (arith, names_few bodies l xs are.0)))

  entry_good : (e : EntryPoint) → IsEntry bodies e → Good (entry_call e)
  entry_good (Main f) is = good_jump Jsr f (omega arith) good_end
  entry_good (Conditional f) is = good_op (cell_emits whole Int tt) (good_jump Jsr f (omega arith) (dropped_good 1 (omega arith)))

  start_good : (n : ℕ) (b : Bool) (is : List TypedItem) (entry : EntryPoint) → AreItems bodies l is → IsEntry bodies entry → n + start_labels b is ≤ total → globals_weight is ≤ frame_limit
      → Good (emit_start l n b is entry)
  unfolding has_type
  start_good n false is entry are at few d = good_both (entry_good entry at) good_return
  start_good n true is entry are at few d =
      good_jump Jsr n (omega arith) (good_both good_return (good_label n (omega arith)
      (good_both (globals_good (n + 1) 0 is are (omega arith) (omega arith))
      (good_op (record { is_op = record { row = record { kind = refl; sizes = tt }; fits = tt }; led = tt; state = refl })
      (good_both (entry_good entry at)
      (good_op (record { is_op = record { row = record { kind = refl; sizes = tt }; fits = tt }; led = tt; state = refl })
      (good_both (dropped_good l.globals (omega arith)) good_return)))))))

  unit_good : (n m : ℕ) (b : Bool) (is : List TypedItem) (entry : EntryPoint) → AreItems bodies l is → IsEntry bodies entry → n + start_labels b is ≤ total
      → m + functions_labels is ≤ total → body_count is ≤ total → globals_weight is ≤ frame_limit → Good (emit_start l n b is entry ++ emit_functions l m 0 is)
  unit_good n m b is entry are at f g h d = good_both (start_good n b is entry are at f d) (functions_good m 0 is are g (omega arith))

-- ---- the end

return_ends : Ended (Instruction ops.Retn ∷ [])
return_ends = record { closes = refl; some = refl }

function_ends : (l : Layout) (n f : ℕ) (ps : List TypedParameter) (body : TypedStmts) → Ended (emit_function l n f ps body)
function_ends l n f ps body =
    ended_more (Label f) _ (ended_behind (emit_stmts l no_exits n (params_cells l.structs ps) None body) _
    (ended_behind (dropped (all_declared_cells l.structs body)) _ (ended_behind (dropped (params_cells l.structs ps)) _ return_ends)))

functions_close : BothClose → (l : Layout) (n f : ℕ) (is : List TypedItem) → Closes (emit_functions l n f is)
functions_close close l n f [] = tt
functions_close close l n f (structure i x ls ∷ is) = functions_close close l n f is
functions_close close l n f (constant i t x v ∷ is) = functions_close close l n f is
functions_close close l n f (global i t xs ∷ is) = functions_close close l n f is
functions_close close l n f (function i t x ps None ∷ is) = functions_close close l n f is
functions_close close l n f (function i t x ps (Some body) ∷ is) =
    close (emit_function l n f ps body) (emit_functions l (n + all_stmt_labels body) (f + 1) is) (function_ends l n f ps body).closes
    (functions_close close l (n + all_stmt_labels body) (f + 1) is)

start_ends : (l : Layout) (n : ℕ) (b : Bool) (is : List TypedItem) (entry : EntryPoint) → Ended (emit_start l n b is entry)
start_ends l n false is entry = ended_behind (entry_call entry) _ return_ends
start_ends l n true is entry =
    ended_more (JumpTo Jsr n) _ (ended_more (Instruction ops.Retn) _ (ended_more (Label n) _ (ended_behind (emit_globals l (n + 1) 0 is) _
    (ended_more (Instruction ops.SaveBp) _ (ended_behind (entry_call entry) _ (ended_more (Instruction ops.RestoreBp) _ (ended_behind (dropped l.globals) _ return_ends)))))))

-- ---- the whole

placed_some : (label total count : ℕ) → count ≡ cond (ltb label total) 1 0 → label < total → 1 ≤ count
placed_some label total count is lt = grind (arith, nat_tests)

pub unit_whole : PlacementsAdd → BothLeadOn → BothClose → (u : TypedUnit) → IsBounded u → IsWhole (unit_code u)
unit_whole add lead close u bounded =
    let l : Layout = layout_of u in
    let is : List TypedItem = u.items in
    let b : Bool = has_globals is in
    let lines : List Line = (unit_code u).lines in
    let total : ℕ = (unit_code u).labels in
    let has_place : (k : ℕ) → k < total → 1 ≤ placements lines k = λ k lt. placed_some k total (placements lines k) (unit_placed add l b is u.entry k) lt in
    let few : body_count is ≤ total = omega arith in
    let shallow : l.globals ≤ frame_limit = omega (arith, globals_few (body_count is) l is bounded.items, bounded.globals) in
    let good = unit_good lead lines total (body_count is) l has_place few shallow (body_count is) (body_count is + start_labels b is) b is u.entry
    bounded.items bounded.entry (omega arith) (omega arith) few bounded.globals in
    record {
      fits = good.fits;
      leads = good.leads;
      closes = close (emit_start l (body_count is) b is u.entry) (emit_functions l (body_count is + start_labels b is) 0 is)
          (start_ends l (body_count is) b is u.entry).closes (functions_close close l (body_count is + start_labels b is) 0 is);
    }
