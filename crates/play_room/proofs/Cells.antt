-- Instructions that change nothing but the cells leave values that have room.
use Rattle.std.proofs.Common.{ℕ, ℤ, zero, suc, ◌+◌, ◌-◌, ◌^◌, ◌<◌, Bool, List, [], ◌∷◌, length, take, drop, Option, Some, arith, if◌then◌else◌}
use Rattle.std.specs.Prelude.{not, ◌==◌, nat_le, All}
use Rattle.std.specs.Int.Signed.{mag_rem, mag_shr}
use Rattle.std.specs.List.{AllByRecursion}
use Rattle.std.proofs.lemmas.List.Elements.{recursion_from_All}
use Rattle.nwq_value.specs.declared.value.Ty.{Ty}
use Rattle.nwq_value.specs.declared.value.Ty.TheVariants as ty
use Rattle.nwq_value.specs.declared.value.Value.{Value}
use Rattle.nwq_value.specs.declared.value.Value.TheVariants.{Int, Text, Object, Effect, Event}
use Rattle.nwq_value.specs.Roles.{tys_eq}
use Rattle.nwq_value.specs.Values.{start_value}
use Rattle.nwq_value.specs.Operators.{both, either as either_of, negation, bits_and, bits_or, bits_xor, complement, shift_left, shift_right, shift_right_unsigned, shift_count, sum, difference}
use Rattle.nwq_value.specs.Operators.{product, quotient, remainder, opposite, less, less_or_equal, greater, greater_or_equal, joined_texts}
use Rattle.ncs_code.specs.Plain.{PlainLit, PlainOp}
use Rattle.ncs_code.specs.Plain as ops
use Rattle.ncs_code.specs.Spelling.{Fits, LitFits}
use Rattle.saved_state.specs.declared.cell.Cell.{Cell}
use Rattle.saved_state.specs.declared.cell.Cell.TheVariants.{Value as Holds, Base}
use Rattle.saved_state.specs.Cells.{StackView}
use Rattle.stack_shape.specs.declared.range.CellRange.{CellRange}
use Rattle.stack_shape.specs.Ranges.{cell_count, depth_of, range_at}
use Rattle.stack_shape.specs.StackEffects.{type_of_both, type_of_one}
use Rattle.machine_rules.specs.Values.{literal_value, starting_value}
use Rattle.machine_rules.specs.Cells.{values_on, values_at, value_types, with_values, overwritten, on_int, on_text, of_int, of_ints, of_texts, value_pushed, range_pushed, values_written}
use Rattle.machine_rules.specs.Cells.{range_written, int_written, int_changed, values_dropped, values_kept, range_kept, runs_eq, runs_compared, pair_eq, pair_compared}
use Rattle.machine_rules.specs.Act.{if_ints, compared, added, int_dropped, one_more, one_less, bp_range, cells_after}
use Rattle.state_format.specs.Parts.{IsMaybe, IsNumber, IsSigned, AreStateBytes}
use Rattle.play_room.specs.Room.{IsText, ValueHasRoom}
use Rattle.play_room.specs.Kept.{StackedHasRoom}
use Rattle.play_room.proofs.Lists.{all_append, all_take, all_drop, all_mapped, mapped, mapped_any, after, after_any, either, some_or_none}
use Rattle.play_room.proofs.Texts.{cut_text, bits_fit, test_fits, zero_fits, no_text}

-- ---- operators

remainder_signed : (x y : ℤ) → IsSigned x → IsSigned (remainder x y)
remainder_signed x y h = record { sfits = omega (arith, mag_rem x y, h.sfits) }

shifted_signed : (x y : ℤ) → IsSigned x → IsSigned (shift_right x y)
shifted_signed x y h = record { sfits = omega (arith, mag_shr x (2 ^ shift_count y), h.sfits) }

-- ---- cells

abbrev pub CellsHaveRoom : List Cell → Type 0
CellsHaveRoom cells = AllByRecursion StackedHasRoom cells

abbrev pub ValuesHaveRoom : List Value → Type 0
ValuesHaveRoom vs = AllByRecursion ValueHasRoom vs

-- the cells that an instruction leaves, where it leaves any
abbrev pub LeavesRoom : Option (List Cell) → Type 0
LeavesRoom o = IsMaybe CellsHaveRoom o

pub top_values : (n : ℕ) (cells : List Cell) → CellsHaveRoom cells → IsMaybe ValuesHaveRoom (values_on n cells)
top_values zero cells all = tt
top_values (suc n) [] all = tt
top_values (suc n) (Base bp ∷ cells) all = tt
top_values (suc n) (Holds v ∷ cells) all = mapped ValuesHaveRoom ValuesHaveRoom (λ vs. v ∷ vs) (λ vs h. (all.0, h)) (values_on n cells) (top_values n cells all.1)

range_values : (r : CellRange) (cells : List Cell) → CellsHaveRoom cells → IsMaybe ValuesHaveRoom (values_at r cells)
range_values r cells all = top_values r.count (drop r.above cells) (all_drop StackedHasRoom r.above cells all)

values_over : (vs : List Value) (cells : List Cell) → ValuesHaveRoom vs → CellsHaveRoom cells → CellsHaveRoom (with_values vs cells)
values_over vs cells h all = all_append StackedHasRoom _ cells (all_mapped StackedHasRoom Holds vs h) all

values_inside : (above : ℕ) (vs : List Value) (cells : List Cell) → ValuesHaveRoom vs → CellsHaveRoom cells → CellsHaveRoom (overwritten above vs cells)
values_inside above vs cells h all =
    all_append StackedHasRoom (take above cells) (with_values vs (drop (above + length vs) cells)) (all_take StackedHasRoom above cells all)
    (values_over vs (drop (above + length vs) cells) h (all_drop StackedHasRoom (above + length vs) cells all))

-- ---- pops

int_on_top : (cells : List Cell) (go : ℤ → List Cell → Option (List Cell)) → ((n : ℤ) (rest : List Cell) → IsSigned n → CellsHaveRoom rest → LeavesRoom (go n rest))
    → CellsHaveRoom cells → LeavesRoom (on_int cells go)
int_on_top [] go keeps all = tt
int_on_top (Base bp ∷ cells) go keeps all = tt
int_on_top (Holds (Int n) ∷ cells) go keeps all = keeps n cells all.0 all.1
int_on_top (Holds (Text bytes) ∷ cells) go keeps all = tt
int_on_top (Holds (Object o) ∷ cells) go keeps all = tt
int_on_top (Holds (Effect e) ∷ cells) go keeps all = tt
int_on_top (Holds (Event n) ∷ cells) go keeps all = tt

text_on_top : (cells : List Cell) (go : List ℕ → List Cell → Option (List Cell))
    → ((bytes : List ℕ) (rest : List Cell) → IsText bytes → CellsHaveRoom rest → LeavesRoom (go bytes rest)) → CellsHaveRoom cells → LeavesRoom (on_text cells go)
text_on_top [] go keeps all = tt
text_on_top (Base bp ∷ cells) go keeps all = tt
text_on_top (Holds (Int n) ∷ cells) go keeps all = tt
text_on_top (Holds (Text bytes) ∷ cells) go keeps all = keeps bytes cells all.0 all.1
text_on_top (Holds (Object o) ∷ cells) go keeps all = tt
text_on_top (Holds (Effect e) ∷ cells) go keeps all = tt
text_on_top (Holds (Event n) ∷ cells) go keeps all = tt

of_one : (f : ℤ → ℤ) → ((x : ℤ) → IsSigned (f x)) → (cells : List Cell) → CellsHaveRoom cells → LeavesRoom (of_int f cells)
of_one f fits cells all = int_on_top cells (λ x rest. Some (Holds (Int (f x)) ∷ rest)) (λ x rest h more. (fits x, more)) all

of_two : (f : ℤ → ℤ → ℤ) → ((x y : ℤ) → IsSigned x → IsSigned (f x y)) → (cells : List Cell) → CellsHaveRoom cells → LeavesRoom (of_ints f cells)
of_two f fits cells all =
    int_on_top cells (λ y rest. on_int rest (λ x below. Some (Holds (Int (f x y)) ∷ below)))
    (λ y rest h more. int_on_top rest (λ x below. Some (Holds (Int (f x y)) ∷ below)) (λ x below k under. (fits x y k, under)) more) all

joined_fits : (cells : List Cell) → CellsHaveRoom cells → LeavesRoom (of_texts joined_texts cells)
joined_fits cells all =
    text_on_top cells (λ b rest. on_text rest (λ a below. Some (Holds (Text (joined_texts a b)) ∷ below)))
    (λ b rest h more. text_on_top rest (λ a below. Some (Holds (Text (joined_texts a b)) ∷ below))
    (λ a below k under. (cut_text _ (all_append (λ c. c < 256) a b k.1 h.1), under)) more) all

-- ---- copies, writes and removals

pushed : (o : Option Value) (cells : List Cell) → IsMaybe ValueHasRoom o → CellsHaveRoom cells → LeavesRoom (value_pushed o cells)
pushed o cells h all = mapped CellsHaveRoom ValueHasRoom (λ v. Holds v ∷ cells) (λ v room. (room, all)) o h

copied : (range : Option CellRange) (cells : List Cell) → CellsHaveRoom cells → LeavesRoom (range_pushed range cells)
copied range cells all =
    after_any CellsHaveRoom _ (λ r. mapped CellsHaveRoom ValuesHaveRoom (λ vs. with_values vs cells) (λ vs h. values_over vs cells h all) (values_at r cells) (range_values r cells all)) range

written : (range : Option CellRange) (cells : List Cell) → CellsHaveRoom cells → LeavesRoom (range_written range cells)
written range cells all =
    after_any CellsHaveRoom _ (λ r. after CellsHaveRoom ValuesHaveRoom _ (λ new h. after_any CellsHaveRoom (λ old. values_written r new old cells)
    (λ old. some_or_none CellsHaveRoom (tys_eq (value_types new) (value_types old)) (Some (overwritten r.above new cells)) (values_inside r.above new cells h all))
    (values_at r cells)) (values_on r.count cells) (top_values r.count cells all)) range

int_inside : (f : ℤ → ℤ) → ((x : ℤ) → IsSigned (f x)) → (above : ℕ) (old : List Value) (cells : List Cell) → CellsHaveRoom cells → LeavesRoom (int_written f above old cells)
int_inside f fits above (Int n ∷ []) cells all = values_inside above (Int (f n) ∷ []) cells (fits n, tt) all
int_inside f fits above old cells all = tt

changed : (f : ℤ → ℤ) → ((x : ℤ) → IsSigned (f x)) → (range : Option CellRange) (cells : List Cell) → CellsHaveRoom cells → LeavesRoom (int_changed f range cells)
changed f fits range cells all =
    after_any CellsHaveRoom _ (λ r. after_any CellsHaveRoom (λ old. int_written f r.above old cells) (λ old. int_inside f fits r.above old cells all) (values_at r cells)) range

dropped : (count : Option ℕ) (cells : List Cell) → CellsHaveRoom cells → LeavesRoom (values_dropped count cells)
dropped count cells all =
    after_any CellsHaveRoom _ (λ n. mapped_any CellsHaveRoom (λ _. drop n cells) (λ _. all_drop StackedHasRoom n cells all) (values_on n cells)) count

kept_inside : (total offset count : ℕ) (cells : List Cell) → CellsHaveRoom cells → LeavesRoom (values_kept total offset count cells)
kept_inside total offset count cells all =
    some_or_none CellsHaveRoom (nat_le (offset + count) total) _
    (mapped CellsHaveRoom ValuesHaveRoom (λ vs. with_values (take count (drop (total - (offset + count)) vs)) (drop total cells))
    (λ vs h. values_over (take count (drop (total - (offset + count)) vs)) (drop total cells)
    (all_take ValueHasRoom count (drop (total - (offset + count)) vs) (all_drop ValueHasRoom (total - (offset + count)) vs h)) (all_drop StackedHasRoom total cells all))
    (values_on total cells) (top_values total cells all))

destructed : (total offset size : ℕ) (cells : List Cell) → CellsHaveRoom cells → LeavesRoom (range_kept total offset size cells)
destructed total offset size cells all =
    after_any CellsHaveRoom _ (λ t. after_any CellsHaveRoom _ (λ o. after_any CellsHaveRoom (λ n. values_kept t o n cells) (λ n. kept_inside t o n cells all) (cell_count size))
    (cell_count offset)) (cell_count total)

-- ---- comparisons

answered : (answer : Bool → Bool) (upper lower : List Value) (rest : List Cell) → CellsHaveRoom rest → LeavesRoom (runs_eq answer upper lower rest)
answered answer upper lower rest all = some_or_none CellsHaveRoom (tys_eq (value_types upper) (value_types lower)) (Some (_ ∷ rest)) (test_fits _, all)

run_answered : (answer : Bool → Bool) (count : Option ℕ) (cells : List Cell) → CellsHaveRoom cells → LeavesRoom (runs_compared answer count cells)
run_answered answer count cells all =
    after_any CellsHaveRoom _ (λ n. after_any CellsHaveRoom _ (λ upper. after_any CellsHaveRoom (λ lower. runs_eq answer upper lower (drop (n + n) cells))
    (λ lower. answered answer upper lower (drop (n + n) cells) (all_drop StackedHasRoom (n + n) cells all)) (values_on n (drop n cells))) (values_on n cells)) count

pair_answered : (answer : Bool → Bool) (type : Option Ty) (cells : List Cell) → CellsHaveRoom cells → LeavesRoom (pair_compared answer type cells)
pair_answered answer type cells all =
    after_any CellsHaveRoom _ (λ t. after_any CellsHaveRoom (λ vs. pair_eq answer t vs (drop 2 cells))
    (λ vs. some_or_none CellsHaveRoom (tys_eq (value_types vs) (t ∷ t ∷ [])) (runs_eq answer (take 1 vs) (drop 1 vs) (drop 2 cells))
    (answered answer (take 1 vs) (drop 1 vs) (drop 2 cells) (all_drop StackedHasRoom 2 cells all))) (values_on 2 cells)) type

compared_room : (answer : Bool → Bool) (kind size : ℕ) (cells : List Cell) → CellsHaveRoom cells → LeavesRoom (compared answer kind size cells)
compared_room answer kind size cells all =
    either LeavesRoom (kind == 0x24) (runs_compared answer (cell_count size) cells) (pair_compared answer (type_of_both kind) cells)
    (run_answered answer (cell_count size) cells all) (pair_answered answer (type_of_both kind) cells all)

if_ints_room : (kind : ℕ) (o : Option (List Cell)) → LeavesRoom o → LeavesRoom (if_ints kind o)
if_ints_room kind o h = some_or_none CellsHaveRoom (kind == 0x20) o h

added_room : (kind : ℕ) (cells : List Cell) → CellsHaveRoom cells → LeavesRoom (added kind cells)
added_room kind cells all =
    either LeavesRoom (kind == 0x20) (of_ints sum cells) _ (of_two sum (λ x y h. bits_fit _) cells all)
    (some_or_none CellsHaveRoom (kind == 0x23) (of_texts joined_texts cells) (joined_fits cells all))

-- ---- what is pushed

bytes_of : (bytes : List ℕ) → All (λ b. b < 2 ^ 8) bytes → AreStateBytes bytes
bytes_of bytes h = recursion_from_All (λ b. b < 256) bytes h

self_or_none : (b : Bool) (self : ℕ) → IsNumber 4 self → IsNumber 4 (if b then self else 0)
self_or_none b self h = either (IsNumber 4) b self 0 h (omega arith)

literal_room : (self : ℕ) (lit : PlainLit) → LitFits lit → IsNumber 4 self → IsMaybe ValueHasRoom (literal_value self lit)
literal_room self (ops.Int n) fits h = fits
literal_room self (ops.Float bytes) fits h = tt
literal_room self (ops.Text bytes) fits h = cut_text bytes (bytes_of bytes fits)
literal_room self (ops.Object n) fits h = self_or_none (n == 0) self h

start_room : (t : Ty) → IsMaybe ValueHasRoom (start_value t)
start_room ty.Void = tt
start_room ty.Int = zero_fits
start_room ty.Text = no_text
start_room ty.Object = omega arith
start_room ty.Effect = (omega arith, tt)
start_room ty.Event = zero_fits
start_room ty.Action = tt
start_room (ty.Struct n) = tt
start_room ty.Refused = tt

starting_room : (kind : ℕ) → IsMaybe ValueHasRoom (starting_value kind)
starting_room kind = after_any ValueHasRoom start_value start_room (type_of_one kind)

-- ---- the cells after an instruction

int_dropped_room : (cells : List Cell) → CellsHaveRoom cells → LeavesRoom (int_dropped cells)
int_dropped_room cells all = int_on_top cells (λ n rest. Some rest) (λ n rest h more. more) all

pub cells_room : (op : PlainOp) (self : ℕ) (s : StackView) → Fits op → IsNumber 4 self → CellsHaveRoom s.cells → LeavesRoom (cells_after op self s)
unfolding cells_after
cells_room (ops.CpDownSp offset size) self s fits h all = written (range_at offset size) s.cells all
cells_room (ops.RsAdd kind) self s fits h all = pushed (starting_value kind) s.cells (starting_room kind) all
cells_room (ops.CpTopSp offset size) self s fits h all = copied (range_at offset size) s.cells all
cells_room (ops.Const lit) self s fits h all = pushed (literal_value self lit) s.cells (literal_room self lit fits h) all
cells_room (ops.Action routine count) self s fits h all = tt
cells_room ops.LogAnd self s fits h all = of_two both (λ x y h. test_fits _) s.cells all
cells_room ops.LogOr self s fits h all = of_two either_of (λ x y h. test_fits _) s.cells all
cells_room ops.IncOr self s fits h all = of_two bits_or (λ x y h. bits_fit _) s.cells all
cells_room ops.ExcOr self s fits h all = of_two bits_xor (λ x y h. bits_fit _) s.cells all
cells_room ops.BoolAnd self s fits h all = of_two bits_and (λ x y h. bits_fit _) s.cells all
cells_room (ops.Equal kind size) self s fits h all = compared_room (λ b. b) kind size s.cells all
cells_room (ops.Nequal kind size) self s fits h all = compared_room not kind size s.cells all
cells_room (ops.Geq kind) self s fits h all = if_ints_room kind _ (of_two greater_or_equal (λ x y h. test_fits _) s.cells all)
cells_room (ops.Gt kind) self s fits h all = if_ints_room kind _ (of_two greater (λ x y h. test_fits _) s.cells all)
cells_room (ops.Lt kind) self s fits h all = if_ints_room kind _ (of_two less (λ x y h. test_fits _) s.cells all)
cells_room (ops.Leq kind) self s fits h all = if_ints_room kind _ (of_two less_or_equal (λ x y h. test_fits _) s.cells all)
cells_room ops.ShLeft self s fits h all = of_two shift_left (λ x y h. bits_fit _) s.cells all
cells_room ops.ShRight self s fits h all = of_two shift_right shifted_signed s.cells all
cells_room ops.UshRight self s fits h all = of_two shift_right_unsigned (λ x y h. bits_fit _) s.cells all
cells_room (ops.Add kind) self s fits h all = added_room kind s.cells all
cells_room (ops.Sub kind) self s fits h all = if_ints_room kind _ (of_two difference (λ x y h. bits_fit _) s.cells all)
cells_room (ops.Mul kind) self s fits h all = if_ints_room kind _ (of_two product (λ x y h. bits_fit _) s.cells all)
cells_room (ops.Div kind) self s fits h all = if_ints_room kind _ (of_two quotient (λ x y h. bits_fit _) s.cells all)
cells_room ops.Mod self s fits h all = of_two remainder remainder_signed s.cells all
cells_room (ops.Neg kind) self s fits h all = some_or_none CellsHaveRoom (kind == 0x03) (of_int opposite s.cells) (of_one opposite (λ x. bits_fit _) s.cells all)
cells_room ops.Comp self s fits h all = of_one complement (λ x. bits_fit _) s.cells all
cells_room (ops.MovSp offset) self s fits h all = dropped (depth_of offset) s.cells all
cells_room (ops.Jmp offset) self s fits h all = all
cells_room (ops.Jsr offset) self s fits h all = tt
cells_room (ops.Jz offset) self s fits h all = int_dropped_room s.cells all
cells_room ops.Retn self s fits h all = tt
cells_room (ops.Destruct total offset size) self s fits h all = destructed total offset size s.cells all
cells_room ops.Not self s fits h all = of_one negation (λ x. test_fits _) s.cells all
cells_room (ops.DecISp offset) self s fits h all = changed one_less (λ x. bits_fit _) (range_at offset 4) s.cells all
cells_room (ops.IncISp offset) self s fits h all = changed one_more (λ x. bits_fit _) (range_at offset 4) s.cells all
cells_room (ops.Jnz offset) self s fits h all = int_dropped_room s.cells all
cells_room (ops.CpDownBp offset size) self s fits h all = written (bp_range s offset size) s.cells all
cells_room (ops.CpTopBp offset size) self s fits h all = copied (bp_range s offset size) s.cells all
cells_room (ops.DecIBp offset) self s fits h all = changed one_less (λ x. bits_fit _) (bp_range s offset 4) s.cells all
cells_room (ops.IncIBp offset) self s fits h all = changed one_more (λ x. bits_fit _) (bp_range s offset 4) s.cells all
cells_room ops.SaveBp self s fits h all = tt
cells_room ops.RestoreBp self s fits h all = tt
cells_room (ops.StoreState globals locals) self s fits h all = tt
cells_room ops.Nop self s fits h all = all
