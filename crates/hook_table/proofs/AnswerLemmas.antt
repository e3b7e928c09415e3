-- What a function's value is worth as an answer.
use Rattle.std.proofs.Common.{◌≡◌, ℕ, zero, suc, ◌≤◌, List, Option, Some, None, Result, Ok, Err, IfOk, sym, ap, arith}
use Rattle.nwq_value.specs.Values.{type_of}
use Rattle.nwq_value.specs.declared.value.Ty.{Ty}
use Rattle.nwq_value.specs.declared.value.Ty.TheVariants.{Void}
use Rattle.nwq_value.specs.declared.value.Value.{Value}
use Rattle.nwq_value.specs.declared.value.Value.TheVariants.{Text as TextValue}
use Rattle.world_rules.specs.Arguments.{int_at, text_at}
use Rattle.world_rules.specs.Pure.{CellLookup, pure}
use Rattle.table_2da.specs.Look.{cell_of, look}
use Rattle.table_2da.specs.declared.tables.Named.{Named}
use Rattle.hook_table.specs.Standard.{function_numbered, number_named, cell_function, IsAnswer}

abbrev type_in : Option Value → Ty
type_in None = Void
type_in (Some v) = type_of v

-- what one of the nine functions gives is its answer, whatever the tables
pub is_answer : (n : ℕ) (args : List Value) (v : Value) (tables : List Named) → n ≤ 8 → ((cell : CellLookup) → pure cell n args ≡ Some v)
    → IsAnswer tables (function_numbered n).name (function_numbered n).result args v
unfolding number_named
is_answer zero args v tables few is = record { value = is (cell_of tables); ty = sym (ap type_in (is (cell_of tables))) }
is_answer (suc zero) args v tables few is = record { value = is (cell_of tables); ty = sym (ap type_in (is (cell_of tables))) }
is_answer (suc (suc zero)) args v tables few is = record { value = is (cell_of tables); ty = sym (ap type_in (is (cell_of tables))) }
is_answer (suc (suc (suc zero))) args v tables few is = record { value = is (cell_of tables); ty = sym (ap type_in (is (cell_of tables))) }
is_answer (suc (suc (suc (suc zero)))) args v tables few is = record { value = is (cell_of tables); ty = sym (ap type_in (is (cell_of tables))) }
is_answer (suc (suc (suc (suc (suc zero))))) args v tables few is = record { value = is (cell_of tables); ty = sym (ap type_in (is (cell_of tables))) }
is_answer (suc (suc (suc (suc (suc (suc zero)))))) args v tables few is = record { value = is (cell_of tables); ty = sym (ap type_in (is (cell_of tables))) }
is_answer (suc (suc (suc (suc (suc (suc (suc zero))))))) args v tables few is = record { value = is (cell_of tables); ty = sym (ap type_in (is (cell_of tables))) }
is_answer (suc (suc (suc (suc (suc (suc (suc (suc zero)))))))) args v tables few is = record { value = is (cell_of tables); ty = sym (ap type_in (is (cell_of tables))) }
is_answer (suc (suc (suc (suc (suc (suc (suc (suc (suc n))))))))) args v tables few is = absurd (omega arith)

pub are_answers : {E : Type 0} (n : ℕ) (args : List Value) (r : Result Value E) → n ≤ 8
    → IfOk r (λ v. (cell : CellLookup) → pure cell n args ≡ Some v)
    → IfOk r (λ v. (tables : List Named) → IsAnswer tables (function_numbered n).name (function_numbered n).result args v)
are_answers n args (Ok v) few is = λ tables. is_answer n args v tables few is
are_answers n args (Err e) few is = tt

-- the text of a cell is the answer of the function that looks cells up
is_cell_answer : (tables : List Named) (args : List Value) (v : Value) → v ≡ TextValue (look tables (text_at 0 args) (text_at 1 args) (int_at 2 args))
    → IsAnswer tables (function_numbered cell_function).name (function_numbered cell_function).result args v
unfolding number_named
is_cell_answer tables args v is = record { value = ap (λ x. Some x) (sym is); ty = ap type_of is }

pub are_cell_answers : {E : Type 0} (tables : List Named) (args : List Value) (r : Result Value E)
    → IfOk r (λ v. v ≡ TextValue (look tables (text_at 0 args) (text_at 1 args) (int_at 2 args)))
    → IfOk r (λ v. IsAnswer tables (function_numbered cell_function).name (function_numbered cell_function).result args v)
are_cell_answers tables args (Ok v) is = is_cell_answer tables args v is
are_cell_answers tables args (Err e) is = tt
