-- Single instructions of a running script.
use Rattle.std.proofs.Common.{arith, ◌≡◌, ◌≤◌, ◌<◌, ◌+◌, ◌-◌, ℕ, List, [], ◌∷◌, ◌++◌, length, take, drop, reverse, Some, None, Bool, true, false, sym, subst, ◌∙◌, ap, refl, zero-add, append_assoc}
use Rattle.std.specs.Prelude.{ℤ, pos, ◌&&◌, nat_le, if◌then◌else◌}
use Rattle.std.specs.Option.{option_map, option_and_then}
use Rattle.std.proofs.lemmas.Bool.Decides.{nat_tests}
use Rattle.std.proofs.lemmas.List.{reverse-append, length-reverse, length-drop, length-take-le, take_at, drop_at, take-append-drop}
use Rattle.nss_tree.specs.declared.operators.BinaryOperator.{BinaryOperator}
use Rattle.nwq_value.specs.declared.value.Ty.{Ty}
use Rattle.nwq_value.specs.declared.value.Ty.TheVariants.{Int as IntTy}
use Rattle.nwq_value.specs.declared.value.Value.{Value}
use Rattle.nwq_value.specs.declared.value.Value.TheVariants.{Int}
use Rattle.nwq_value.specs.declared.engine.Const.{Const}
use Rattle.nwq_value.specs.declared.engine.Const.TheVariants as const
use Rattle.nwq_value.specs.Operators.{sum, difference, is_zero}
use Rattle.typing_rules.specs.Types.{binary_type}
use Rattle.ncs_code.specs.Plain.{PlainOp}
use Rattle.ncs_code.specs.Plain as ops
use Rattle.ncs_code.specs.Spelling.{op_size}
use Rattle.ncs_code.specs.File.{op_at, jump_place}
use Rattle.ncs_emit.specs.Labelled.{Line, lines_size, line_size}
use Rattle.ncs_emit.specs.Standing.{LinesStand}
use Rattle.typing_rules.specs.Cells.{Structs, cell_types}
use Rattle.saved_state.specs.declared.cell.Cell.{Cell}
use Rattle.saved_state.specs.declared.cell.Cell.TheVariants.{Value as Holds}
use Rattle.saved_state.specs.declared.saved.Saved.{Saved}
use Rattle.stack_shape.specs.Ranges.{cell_count}
use Rattle.emission_rules.specs.Operations.{beneath, bytes_of, literal_of, operation}
use Rattle.world_rules.specs.World.{World}
use Rattle.machine_rules.specs.Values.{literal_value}
use Rattle.machine_rules.specs.Cells.{values_on, values_at, value_types, with_values, overwritten, from_bp, of_int, value_pushed, range_pushed, range_written, int_written, int_changed, values_dropped}
use Rattle.machine_rules.specs.Cells.{values_kept, zero_on_top}
use Rattle.machine_rules.specs.Act.{Act, Moves, act, moved, cells_after, place_after, is_division, bp_range, one_more, one_less}
use Rattle.machine_rules.specs.Machine.{Goes, Divided, step, followed, next_op}
use Rattle.machine_rules.specs.Laws.{EqualityIsTested}
use Rattle.source_meaning.specs.Values.{constant_value, parts_of, one_int, operate, divides_by_zero}
use Rattle.source_laws.specs.Ledger.{MachineHost}
use Rattle.source_laws.specs.Kept.{pushed, Site, IsListed, at}
use Rattle.source_laws.proofs.Cells.{values_pushed, dropped_pushed, values_in, copied, written, put_there}
use Rattle.source_laws.specs.RangeLemmas.{count_of, depth_beneath, range_there}
use Rattle.source_laws.proofs.Operators.{of_one, operator_does, operation_acts, operation_passes}

-- ---- lines that stand one after another

pub both_stand : (ops : List PlainOp) (places : ℕ → ℕ) (place : ℕ) (a b : List Line) → LinesStand ops places place (a ++ b)
    → LinesStand ops places place a × LinesStand ops places (place + lines_size a) b
both_stand ops places place [] b h = let e : place ≡ place + 0 = omega arith in (tt, subst (λ m. LinesStand ops places m b) e h)
both_stand ops places place (line ∷ a) b h =
    let r = both_stand ops places (place + line_size line) a b h.1 in
    let e : place + line_size line + lines_size a ≡ place + (line_size line + lines_size a) = omega arith in
    ((h.0, r.0), subst (λ m. LinesStand ops places m b) e r.1)

pub sizes : (a b : List Line) → lines_size (a ++ b) ≡ lines_size a + lines_size b
sizes [] b = sym (zero-add (lines_size b))
sizes (line ∷ a) b = let h = sizes a b in omega (arith, h)

-- ---- any instruction

module _ (host : MachineHost) (x : Site) (listed : IsListed host x) where
  pub acted : (place : ℕ) (op : PlainOp) (cells : List Cell) (calls : List ℕ) (pending : List Saved) (world : World Saved) (a : Act)
      → op_at x.code place ≡ Some op → act host.table op (at x place cells calls pending world).running ≡ Some a
      → step host (at x place cells calls pending world) ≡ Some (followed host (at x place cells calls pending world) a)
  unfolding step
  acted place op cells calls pending world a begins acts =
      let s = at x place cells calls pending world in
      let next : next_op host.scripts s.running ≡ Some op = ap (option_and_then (λ script. op_at script.code place)) listed.is ∙ begins in
      ap (option_and_then (λ o. option_map (followed host s) (act host.table o s.running))) next ∙ ap (option_map (followed host s)) acts

  -- one that changes the cells alone
  pub moves : (place next : ℕ) (op : PlainOp) (cells new : List Cell) (calls : List ℕ) (pending : List Saved) (world : World Saved)
      → op_at x.code place ≡ Some op → act host.table op (at x place cells calls pending world).running ≡ moved op (at x place cells calls pending world).running
      → cells_after op x.self (record { cells = cells; bp = x.bp }) ≡ Some new → (is_division op && zero_on_top cells) ≡ false
      → place_after op place cells ≡ next
      → step host (at x place cells calls pending world) ≡ Some (Goes (at x next new calls pending world))
  moves place next op cells new calls pending world begins acts after undivided goes =
      let f = (at x place cells calls pending world).running in
      let is : moved op f ≡ Some (Moves (at x (place_after op place cells) new calls pending world).running) =
      ap (option_map (λ (t : List Cell). if is_division op && zero_on_top cells then Act.Divides else Moves (at x (place_after op place cells) t calls pending world).running)) after
      ∙ ap (λ (b : Bool). Some (if b then Act.Divides else Moves (at x (place_after op place cells) new calls pending world).running)) undivided in
      acted place op cells calls pending world (Moves (at x (place_after op place cells) new calls pending world).running) begins (acts ∙ is)
      ∙ ap (λ (n : ℕ). Some (Goes (at x n new calls pending world))) goes

  -- ---- constants

  literal_is : (k : Const) → literal_value x.self (literal_of k) ≡ Some (constant_value x.self k)
  literal_is (const.Int n) = refl
  literal_is (const.Text bytes) = refl
  literal_is const.SelfObject = refl
  literal_is const.InvalidObject = refl

  pub constant_goes : (place next : ℕ) (k : Const) (cells : List Cell) (calls : List ℕ) (pending : List Saved) (world : World Saved)
      → op_at x.code place ≡ Some (ops.Const (literal_of k)) → place + op_size (ops.Const (literal_of k)) ≡ next
      → step host (at x place cells calls pending world) ≡ Some (Goes (at x next (Holds (constant_value x.self k) ∷ cells) calls pending world))
  unfolding act cells_after
  constant_goes place next k cells calls pending world begins goes =
      moves place next (ops.Const (literal_of k)) cells (Holds (constant_value x.self k) ∷ cells) calls pending world begins refl
      (ap (λ v. value_pushed v cells) (literal_is k)) refl goes

  pub int_goes : (place next : ℕ) (n : ℤ) (cells : List Cell) (calls : List ℕ) (pending : List Saved) (world : World Saved)
      → op_at x.code place ≡ Some (ops.Const (ops.Int n)) → place + op_size (ops.Const (ops.Int n)) ≡ next
      → step host (at x place cells calls pending world) ≡ Some (Goes (at x next (Holds (Int n) ∷ cells) calls pending world))
  int_goes place next n cells calls pending world begins goes = constant_goes place next (const.Int n) cells calls pending world begins goes

  -- ---- jumps

  pub jump_goes : (place next : ℕ) (offset : ℤ) (cells : List Cell) (calls : List ℕ) (pending : List Saved) (world : World Saved)
      → op_at x.code place ≡ Some (ops.Jmp offset) → jump_place place offset ≡ next
      → step host (at x place cells calls pending world) ≡ Some (Goes (at x next cells calls pending world))
  unfolding act cells_after
  jump_goes place next offset cells calls pending world begins goes =
      moves place next (ops.Jmp offset) cells cells calls pending world begins refl refl refl goes

  -- where the int is 0
  pub zero_jumps : (place next : ℕ) (offset n : ℤ) (cells : List Cell) (calls : List ℕ) (pending : List Saved) (world : World Saved)
      → op_at x.code place ≡ Some (ops.Jz offset) → is_zero n ≡ true → jump_place place offset ≡ next
      → step host (at x place (Holds (Int n) ∷ cells) calls pending world) ≡ Some (Goes (at x next cells calls pending world))
  unfolding act cells_after
  zero_jumps place next offset n cells calls pending world begins test goes =
      moves place next (ops.Jz offset) (Holds (Int n) ∷ cells) cells calls pending world begins refl refl refl
      (ap (λ (b : Bool). if b then jump_place place offset else place + 6) test ∙ goes)

  pub other_passes : (place next : ℕ) (offset n : ℤ) (cells : List Cell) (calls : List ℕ) (pending : List Saved) (world : World Saved)
      → op_at x.code place ≡ Some (ops.Jz offset) → is_zero n ≡ false → place + 6 ≡ next
      → step host (at x place (Holds (Int n) ∷ cells) calls pending world) ≡ Some (Goes (at x next cells calls pending world))
  unfolding act cells_after
  other_passes place next offset n cells calls pending world begins test goes =
      moves place next (ops.Jz offset) (Holds (Int n) ∷ cells) cells calls pending world begins refl refl refl
      (ap (λ (b : Bool). if b then jump_place place offset else place + 6) test ∙ goes)

  -- ---- copies and writes of what stands in the frame

  pub frame_copied : (place next depth from count : ℕ) (cells over : List Cell) (v : List Value) (under : List Cell) (calls : List ℕ) (pending : List Saved) (world : World Saved)
      → op_at x.code place ≡ Some (ops.CpTopSp (beneath (depth - from)) (bytes_of count)) → place + 8 ≡ next
      → cells ≡ over ++ pushed v under → length v ≡ count → 0 < count → length over + (count + from) ≡ depth
      → step host (at x place cells calls pending world) ≡ Some (Goes (at x next (pushed v cells) calls pending world))
  unfolding act cells_after
  frame_copied place next depth from count cells over v under calls pending world begins goes is size some deep =
      moves place next (ops.CpTopSp (beneath (depth - from)) (bytes_of count)) cells (pushed v cells) calls pending world begins refl
      (ap (λ r. range_pushed r cells) (range_there (depth - from) (length over) count some (omega (arith, deep))) ∙ copied cells over v under (length over) count is refl size)
      refl goes

  pub frame_written : (place next depth from count : ℕ) (cells over : List Cell) (new old : List Value) (under top : List Cell) (calls : List ℕ) (pending : List Saved) (world : World Saved)
      → op_at x.code place ≡ Some (ops.CpDownSp (beneath (depth - from)) (bytes_of count)) → place + 8 ≡ next
      → cells ≡ over ++ pushed old under → cells ≡ pushed new top → length new ≡ count → value_types new ≡ value_types old → 0 < count → length over + (count + from) ≡ depth
      → step host (at x place cells calls pending world) ≡ Some (Goes (at x next (over ++ pushed new under) calls pending world))
  unfolding act cells_after
  frame_written place next depth from count cells over new old under top calls pending world begins goes is top_is size types some deep =
      moves place next (ops.CpDownSp (beneath (depth - from)) (bytes_of count)) cells (over ++ pushed new under) calls pending world begins refl
      (ap (λ r. range_written r cells) (range_there (depth - from) (length over) count some (omega (arith, deep))) ∙ written cells over new old under top (length over) count is top_is refl size types)
      refl goes

  -- ---- the same of globals, whose offsets count from BP

  from_base : (cells over : List Cell) (all from above count : ℕ) → 0 < count → above + (count + from) ≡ all → x.bp ≤ length cells → (length cells - x.bp) + above ≡ length over
      → bp_range (record { cells = cells; bp = x.bp }) (beneath (all - from)) (bytes_of count) ≡ Some (record { above = length over; count = count })
  from_base cells over all from above count some deep low is =
      let reached : nat_le x.bp (length cells) ≡ true = grind (arith, nat_tests, low) in
      ap (option_and_then (from_bp (record { cells = cells; bp = x.bp }))) (range_there (all - from) above count some (omega (arith, deep)))
      ∙ ap (λ (b : Bool). if b then Some (record { above = (length cells - x.bp) + above; count = count }) else None) reached
      ∙ ap (λ (n : ℕ). Some (record { above = n; count = count })) is

  pub base_copied : (place next all from above count : ℕ) (cells over : List Cell) (v : List Value) (under : List Cell) (calls : List ℕ) (pending : List Saved) (world : World Saved)
      → op_at x.code place ≡ Some (ops.CpTopBp (beneath (all - from)) (bytes_of count)) → place + 8 ≡ next
      → cells ≡ over ++ pushed v under → length v ≡ count → 0 < count → above + (count + from) ≡ all → x.bp ≤ length cells → (length cells - x.bp) + above ≡ length over
      → step host (at x place cells calls pending world) ≡ Some (Goes (at x next (pushed v cells) calls pending world))
  unfolding act cells_after
  base_copied place next all from above count cells over v under calls pending world begins goes is size some deep low far =
      moves place next (ops.CpTopBp (beneath (all - from)) (bytes_of count)) cells (pushed v cells) calls pending world begins refl
      (ap (λ r. range_pushed r cells) (from_base cells over all from above count some deep low far) ∙ copied cells over v under (length over) count is refl size)
      refl goes

  pub base_written : (place next all from above count : ℕ) (cells over : List Cell) (new old : List Value) (under top : List Cell) (calls : List ℕ) (pending : List Saved) (world : World Saved)
      → op_at x.code place ≡ Some (ops.CpDownBp (beneath (all - from)) (bytes_of count)) → place + 8 ≡ next
      → cells ≡ over ++ pushed old under → cells ≡ pushed new top → length new ≡ count → value_types new ≡ value_types old → 0 < count
      → above + (count + from) ≡ all → x.bp ≤ length cells → (length cells - x.bp) + above ≡ length over
      → step host (at x place cells calls pending world) ≡ Some (Goes (at x next (over ++ pushed new under) calls pending world))
  unfolding act cells_after
  base_written place next all from above count cells over new old under top calls pending world begins goes is top_is size types some deep low far =
      moves place next (ops.CpDownBp (beneath (all - from)) (bytes_of count)) cells (over ++ pushed new under) calls pending world begins refl
      (ap (λ r. range_written r cells) (from_base cells over all from above count some deep low far) ∙ written cells over new old under top (length over) count is top_is refl size types)
      refl goes

  -- ---- ints that change where they stand

  int_put : (f : ℤ → ℤ) (cells over under : List Cell) (n : ℤ) → cells ≡ over ++ Holds (Int n) ∷ under
      → int_changed f (Some (record { above = length over; count = 1 })) cells ≡ Some (over ++ Holds (Int (f n)) ∷ under)
  int_put f cells over under n is =
      let old : values_at (record { above = length over; count = 1 }) cells ≡ Some (Int n ∷ []) =
      ap (values_at (record { above = length over; count = 1 })) is ∙ values_in over (Int n ∷ []) under (length over) 1 refl refl in
      let put : overwritten (length over) (Int (f n) ∷ []) cells ≡ over ++ Holds (Int (f n)) ∷ under =
      ap (overwritten (length over) (Int (f n) ∷ [])) is ∙ put_there over (Int (f n) ∷ []) (Int n ∷ []) under refl in
      ap (option_and_then (λ vs. int_written f (length over) vs cells)) old ∙ ap Some put

  pub frame_increased : (place next depth from : ℕ) (cells over under : List Cell) (n : ℤ) (calls : List ℕ) (pending : List Saved) (world : World Saved)
      → op_at x.code place ≡ Some (ops.IncISp (beneath (depth - from))) → place + 6 ≡ next → cells ≡ over ++ Holds (Int n) ∷ under → length over + (1 + from) ≡ depth
      → step host (at x place cells calls pending world) ≡ Some (Goes (at x next (over ++ Holds (Int (sum n (pos 1))) ∷ under) calls pending world))
  unfolding act cells_after
  frame_increased place next depth from cells over under n calls pending world begins goes is deep =
      moves place next (ops.IncISp (beneath (depth - from))) cells (over ++ Holds (Int (sum n (pos 1))) ∷ under) calls pending world begins refl
      (ap (λ r. int_changed one_more r cells) (range_there (depth - from) (length over) 1 (omega arith) (omega (arith, deep))) ∙ int_put one_more cells over under n is) refl goes

  pub frame_decreased : (place next depth from : ℕ) (cells over under : List Cell) (n : ℤ) (calls : List ℕ) (pending : List Saved) (world : World Saved)
      → op_at x.code place ≡ Some (ops.DecISp (beneath (depth - from))) → place + 6 ≡ next → cells ≡ over ++ Holds (Int n) ∷ under → length over + (1 + from) ≡ depth
      → step host (at x place cells calls pending world) ≡ Some (Goes (at x next (over ++ Holds (Int (difference n (pos 1))) ∷ under) calls pending world))
  unfolding act cells_after
  frame_decreased place next depth from cells over under n calls pending world begins goes is deep =
      moves place next (ops.DecISp (beneath (depth - from))) cells (over ++ Holds (Int (difference n (pos 1))) ∷ under) calls pending world begins refl
      (ap (λ r. int_changed one_less r cells) (range_there (depth - from) (length over) 1 (omega arith) (omega (arith, deep))) ∙ int_put one_less cells over under n is) refl goes

  pub base_increased : (place next all from above : ℕ) (cells over under : List Cell) (n : ℤ) (calls : List ℕ) (pending : List Saved) (world : World Saved)
      → op_at x.code place ≡ Some (ops.IncIBp (beneath (all - from))) → place + 6 ≡ next → cells ≡ over ++ Holds (Int n) ∷ under
      → above + (1 + from) ≡ all → x.bp ≤ length cells → (length cells - x.bp) + above ≡ length over
      → step host (at x place cells calls pending world) ≡ Some (Goes (at x next (over ++ Holds (Int (sum n (pos 1))) ∷ under) calls pending world))
  unfolding act cells_after
  base_increased place next all from above cells over under n calls pending world begins goes is deep low far =
      moves place next (ops.IncIBp (beneath (all - from))) cells (over ++ Holds (Int (sum n (pos 1))) ∷ under) calls pending world begins refl
      (ap (λ r. int_changed one_more r cells) (from_base cells over all from above 1 (omega arith) deep low far) ∙ int_put one_more cells over under n is) refl goes

  pub base_decreased : (place next all from above : ℕ) (cells over under : List Cell) (n : ℤ) (calls : List ℕ) (pending : List Saved) (world : World Saved)
      → op_at x.code place ≡ Some (ops.DecIBp (beneath (all - from))) → place + 6 ≡ next → cells ≡ over ++ Holds (Int n) ∷ under
      → above + (1 + from) ≡ all → x.bp ≤ length cells → (length cells - x.bp) + above ≡ length over
      → step host (at x place cells calls pending world) ≡ Some (Goes (at x next (over ++ Holds (Int (difference n (pos 1))) ∷ under) calls pending world))
  unfolding act cells_after
  base_decreased place next all from above cells over under n calls pending world begins goes is deep low far =
      moves place next (ops.DecIBp (beneath (all - from))) cells (over ++ Holds (Int (difference n (pos 1))) ∷ under) calls pending world begins refl
      (ap (λ r. int_changed one_less r cells) (from_base cells over all from above 1 (omega arith) deep low far) ∙ int_put one_less cells over under n is) refl goes

  -- ---- removals

  pub dropped_goes : (place next count : ℕ) (v : List Value) (cells : List Cell) (calls : List ℕ) (pending : List Saved) (world : World Saved)
      → op_at x.code place ≡ Some (ops.MovSp (beneath count)) → place + 6 ≡ next → length v ≡ count
      → step host (at x place (pushed v cells) calls pending world) ≡ Some (Goes (at x next cells calls pending world))
  unfolding act cells_after
  dropped_goes place next count v cells calls pending world begins goes size =
      let there : values_on count (pushed v cells) ≡ Some (reverse v) = ap (λ n. values_on n (pushed v cells)) (sym size) ∙ values_pushed v cells in
      let rest : drop count (pushed v cells) ≡ cells = ap (λ n. drop n (pushed v cells)) (sym size) ∙ dropped_pushed v cells in
      moves place next (ops.MovSp (beneath count)) (pushed v cells) cells calls pending world begins refl
      (ap (λ d. values_dropped d (pushed v cells)) (depth_beneath count)
      ∙ ap (option_map (λ _. drop count (pushed v cells))) there ∙ ap Some rest) refl goes

  -- ---- one int on top, and parts of the value on top

  pub one_goes : (place next : ℕ) (op : PlainOp) (f : ℤ → ℤ) (v : List Value) (cells : List Cell) (calls : List ℕ) (pending : List Saved) (world : World Saved)
      → op_at x.code place ≡ Some op
      → act host.table op (at x place (pushed v cells) calls pending world).running ≡ moved op (at x place (pushed v cells) calls pending world).running
      → cells_after op x.self (record { cells = pushed v cells; bp = x.bp }) ≡ of_int f (pushed v cells) → (is_division op && zero_on_top (pushed v cells)) ≡ false
      → place_after op place (pushed v cells) ≡ next → value_types v ≡ IntTy ∷ []
      → step host (at x place (pushed v cells) calls pending world) ≡ Some (Goes (at x next (pushed (one_int f v) cells) calls pending world))
  one_goes place next op f v cells calls pending world begins acts after undivided goes typed =
      moves place next op (pushed v cells) (pushed (one_int f v) cells) calls pending world begins acts (after ∙ of_one f v cells typed) undivided goes

  -- the parts of a value the other way round
  reversed_part : (o n : ℕ) (v : List Value) → o + n ≤ length v → take n (drop (length v - (o + n)) (reverse v)) ≡ reverse (parts_of o n v)
  reversed_part o n v h =
      let a = take o v in
      let b = parts_of o n v in
      let c = drop n (drop o v) in
      let whole : v ≡ a ++ (b ++ c) = sym (take-append-drop o v) ∙ ap (λ t. take o v ++ t) (sym (take-append-drop n (drop o v))) in
      let turned : reverse v ≡ reverse c ++ (reverse b ++ reverse a) =
      ap reverse whole ∙ reverse-append a (b ++ c) ∙ ap (λ t. t ++ reverse a) (reverse-append b c) ∙ append_assoc (reverse c) (reverse b) (reverse a) in
      let rest_size : length c ≡ length v - (o + n) = length-drop n (drop o v) ∙ ap (λ k. k - n) (length-drop o v) ∙ omega arith in
      let back_size : length (reverse c) ≡ length v - (o + n) = length-reverse c ∙ rest_size in
      let left : length (drop o v) ≡ length v - o = length-drop o v in
      let part_size : length (reverse b) ≡ n = length-reverse b ∙ length-take-le n (drop o v) (omega (arith, left, h)) in
      ap (λ t. take n (drop (length v - (o + n)) t)) turned
      ∙ ap (take n) (drop_at (reverse c) (reverse b ++ reverse a) (length v - (o + n)) back_size)
      ∙ take_at (reverse b) (reverse a) n part_size

  pub cut_goes : (place next total offset count : ℕ) (v : List Value) (cells : List Cell) (calls : List ℕ) (pending : List Saved) (world : World Saved)
      → op_at x.code place ≡ Some (ops.Destruct (bytes_of total) (bytes_of offset) (bytes_of count)) → place + 8 ≡ next → length v ≡ total → offset + count ≤ total
      → step host (at x place (pushed v cells) calls pending world) ≡ Some (Goes (at x next (pushed (parts_of offset count v) cells) calls pending world))
  unfolding act cells_after
  cut_goes place next total offset count v cells calls pending world begins goes size inside =
      let stack = pushed v cells in
      let there : values_on total stack ≡ Some (reverse v) = ap (λ k. values_on k stack) (sym size) ∙ values_pushed v cells in
      let rest : drop total stack ≡ cells = ap (λ k. drop k stack) (sym size) ∙ dropped_pushed v cells in
      let fits : nat_le (offset + count) total ≡ true = grind (arith, nat_tests, inside) in
      let part : take count (drop (total - (offset + count)) (reverse v)) ≡ reverse (parts_of offset count v) =
      ap (λ k. take count (drop (k - (offset + count)) (reverse v))) (sym size) ∙ reversed_part offset count v (omega (arith, size, inside)) in
      let kept : values_kept total offset count stack ≡ Some (pushed (parts_of offset count v) cells) =
      ap (λ (b : Bool). if b then option_map (λ vs. with_values (take count (drop (total - (offset + count)) vs)) (drop total stack)) (values_on total stack) else None) fits
      ∙ ap (option_map (λ vs. with_values (take count (drop (total - (offset + count)) vs)) (drop total stack))) there
      ∙ ap (λ vs. Some (with_values vs (drop total stack))) part
      ∙ ap (λ t. Some (with_values (reverse (parts_of offset count v)) t)) rest in
      moves place next (ops.Destruct (bytes_of total) (bytes_of offset) (bytes_of count)) stack (pushed (parts_of offset count v) cells) calls pending world begins refl
      (ap (λ t. option_and_then (λ k. option_and_then (λ o. option_and_then (λ n. values_kept k o n stack) (cell_count (bytes_of count))) (cell_count (bytes_of offset))) t) (count_of total)
      ∙ ap (λ t. option_and_then (λ o. option_and_then (λ n. values_kept total o n stack) (cell_count (bytes_of count))) t) (count_of offset)
      ∙ ap (λ t. option_and_then (λ n. values_kept total offset n stack) t) (count_of count)
      ∙ kept)
      refl goes

  -- a second copy of the value on top
  pub top_copied : (place next : ℕ) (v : Value) (cells : List Cell) (calls : List ℕ) (pending : List Saved) (world : World Saved)
      → op_at x.code place ≡ Some (ops.CpTopSp (beneath 1) (bytes_of 1)) → place + 8 ≡ next
      → step host (at x place (Holds v ∷ cells) calls pending world) ≡ Some (Goes (at x next (Holds v ∷ Holds v ∷ cells) calls pending world))
  unfolding act cells_after
  top_copied place next v cells calls pending world begins goes =
      moves place next (ops.CpTopSp (beneath 1) (bytes_of 1)) (Holds v ∷ cells) (Holds v ∷ Holds v ∷ cells) calls pending world begins refl
      (ap (λ r. range_pushed r (Holds v ∷ cells)) (range_there 1 0 1 (omega arith) refl) ∙ copied (Holds v ∷ cells) [] (v ∷ []) cells 0 1 refl refl refl)
      refl goes

  -- ---- operators

  pub operator_goes : (tested : EqualityIsTested) (place next : ℕ) (structs : Structs) (o : BinaryOperator) (s t r : Ty)
      (v w : List Value) (cells : List Cell) (calls : List ℕ) (pending : List Saved) (world : World Saved)
      → op_at x.code place ≡ Some (operation o s (length (cell_types structs s))) → place + op_size (operation o s (length (cell_types structs s))) ≡ next
      → binary_type o s t ≡ Some r → value_types v ≡ cell_types structs s → value_types w ≡ cell_types structs t → divides_by_zero o w ≡ false
      → step host (at x place (pushed w (pushed v cells)) calls pending world) ≡ Some (Goes (at x next (pushed (operate o v w) cells) calls pending world))
  operator_goes tested place next structs o s t r v w cells calls pending world begins goes typed tv tw divides =
      let does = operator_does tested structs o s t r v w cells x.self x.bp typed tv tw in
      moves place next (operation o s (length (cell_types structs s))) (pushed w (pushed v cells)) (pushed (operate o v w) cells) calls pending world begins
      (operation_acts host.table (at x place (pushed w (pushed v cells)) calls pending world).running o s (length (cell_types structs s)))
      does.after (does.undivided ∙ divides)
      (operation_passes o s (length (cell_types structs s)) place (pushed w (pushed v cells)) ∙ goes)

  pub operator_divides : (tested : EqualityIsTested) (place : ℕ) (structs : Structs) (o : BinaryOperator) (s t r : Ty)
      (v w : List Value) (cells : List Cell) (calls : List ℕ) (pending : List Saved) (world : World Saved)
      → op_at x.code place ≡ Some (operation o s (length (cell_types structs s)))
      → binary_type o s t ≡ Some r → value_types v ≡ cell_types structs s → value_types w ≡ cell_types structs t → divides_by_zero o w ≡ true
      → step host (at x place (pushed w (pushed v cells)) calls pending world) ≡ Some Divided
  operator_divides tested place structs o s t r v w cells calls pending world begins typed tv tw divides =
      let does = operator_does tested structs o s t r v w cells x.self x.bp typed tv tw in
      let op = operation o s (length (cell_types structs s)) in
      let stack = pushed w (pushed v cells) in
      let f = (at x place stack calls pending world).running in
      let is : moved op f ≡ Some Act.Divides =
      ap (option_map (λ (t : List Cell). if is_division op && zero_on_top stack then Act.Divides else Moves (at x (place_after op place stack) t calls pending world).running)) does.after
      ∙ ap (λ (b : Bool). Some (if b then Act.Divides else Moves (at x (place_after op place stack) (pushed (operate o v w) cells) calls pending world).running)) (does.undivided ∙ divides) in
      acted place op stack calls pending world Act.Divides begins (operation_acts host.table f o s (length (cell_types structs s)) ∙ is)
