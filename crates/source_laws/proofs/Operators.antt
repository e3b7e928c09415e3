-- The instruction of each operator gives what the operator gives.
use Rattle.std.proofs.Common.{◌≡◌, ◌+◌, ℕ, List, [], ◌∷◌, ◌++◌, length, drop, reverse, Some, None, Bool, true, false, sym, subst, ◌∙◌, ap, refl}
use Rattle.std.specs.Prelude.{ℤ, not, ◌&&◌, if◌then◌else◌}
use Rattle.std.specs.Option.{option_and_then}
use Rattle.std.proofs.lemmas.Bool.Decides.{Decides-eqb}
use Rattle.std.proofs.lemmas.List.{reverse-reverse, length-map, drop-drop}
use Rattle.nss_tree.specs.declared.operators.BinaryOperator.{BinaryOperator}
use Rattle.nss_tree.specs.declared.operators.BinaryOperator.TheVariants as bin
use Rattle.nss_tree.specs.declared.operators.AssignOperator.{AssignOperator}
use Rattle.nss_tree.specs.declared.operators.AssignOperator.TheVariants as asg
use Rattle.nwq_value.specs.declared.value.Ty.{Ty}
use Rattle.nwq_value.specs.declared.value.Ty.TheVariants.{Void, Int as IntTy, Text as TextTy, Object as ObjectTy, Effect as EffectTy, Event as EventTy, Action, Struct, Refused}
use Rattle.nwq_value.specs.declared.value.Value.{Value}
use Rattle.nwq_value.specs.declared.value.Value.TheVariants.{Int, Text}
use Rattle.nwq_value.specs.Engine.{EngineTable}
use Rattle.nwq_value.specs.Roles.{tys_eq}
use Rattle.nwq_value.specs.Values.{type_of}
use Rattle.nwq_value.specs.Operators.{as_int, is_zero, both, either, bits_and, bits_or, bits_xor, shift_left, shift_right, shift_right_unsigned, sum, difference, product, quotient, remainder, less}
use Rattle.nwq_value.specs.Operators.{less_or_equal, greater, greater_or_equal, values_eq, value_eq, joined_texts}
use Rattle.ncs_code.specs.Spelling.{op_size}
use Rattle.ncs_emit.specs.Labelled.{Instruction}
use Rattle.typing_rules.specs.Cells.{Structs, cell_types}
use Rattle.saved_state.specs.declared.cell.Cell.{Cell}
use Rattle.saved_state.specs.declared.cell.Cell.TheVariants.{Value as Holds}
use Rattle.stack_shape.specs.StackEffects.{type_of_both}
use Rattle.stack_shape.specs.Ranges.{cell_count}
use Rattle.emission_rules.specs.Operations.{operation, combination, bytes_of, comparison_kind, comparison_size}
use Rattle.emission_rules.specs.Expressions.{is_set}
use Rattle.typing_rules.specs.Types.{same_type, is_compared, of_ints as ints_type, sum_type, comparison_type, binary_type, assigned_type}
use Rattle.machine_rules.specs.Cells.{values_on, value_types, of_int, of_ints, of_texts, zero_on_top, runs_eq, runs_compared, pair_compared}
use Rattle.machine_rules.specs.Frames.{Frame}
use Rattle.machine_rules.specs.Act.{act, moved, cells_after, compared, is_division, place_after}
use Rattle.machine_rules.specs.Laws.{EqualityIsTested}
use Rattle.source_meaning.specs.Values.{two_ints, one_int, added, test_value, operate, divides_by_zero, applied, is_true}
use Rattle.source_laws.specs.Kept.{pushed}
use Rattle.source_laws.proofs.Cells.{values_pushed, dropped_pushed, types_alike, types_count}
use Rattle.source_laws.specs.RangeLemmas.{count_of, tys_same}

-- ---- values of one part

pub of_one : (f : ℤ → ℤ) (v : List Value) (cells : List Cell) → value_types v ≡ IntTy ∷ [] → of_int f (pushed v cells) ≡ Some (pushed (one_int f v) cells)
of_one f (Int n ∷ []) cells h = refl
of_one f v cells h = absurd cc

pub of_two : (f : ℤ → ℤ → ℤ) (v w : List Value) (cells : List Cell) → value_types v ≡ IntTy ∷ [] → value_types w ≡ IntTy ∷ []
    → of_ints f (pushed w (pushed v cells)) ≡ Some (pushed (two_ints f v w) cells)
of_two f (Int m ∷ []) (Int n ∷ []) cells h k = refl
of_two f (Int m ∷ []) w cells h k = absurd cc
of_two f v w cells h k = absurd cc

pub one_typed : (f : ℤ → ℤ) (v : List Value) → value_types v ≡ IntTy ∷ [] → value_types (one_int f v) ≡ IntTy ∷ []
one_typed f (Int n ∷ []) h = refl
one_typed f v h = absurd cc

pub two_typed : (f : ℤ → ℤ → ℤ) (v w : List Value) → value_types v ≡ IntTy ∷ [] → value_types w ≡ IntTy ∷ [] → value_types (two_ints f v w) ≡ IntTy ∷ []
two_typed f (Int m ∷ []) (Int n ∷ []) h k = refl
two_typed f (Int m ∷ []) w h k = absurd cc
two_typed f v w h k = absurd cc

-- ---- `&&` and `||` on two ints

or_of_ints : (v w : List Value) → value_types v ≡ IntTy ∷ [] → value_types w ≡ IntTy ∷ [] → operate bin.Or v w ≡ two_ints either v w
or_of_ints (Int m ∷ []) (Int n ∷ []) h k = refl
or_of_ints (Int m ∷ []) w h k = absurd cc
or_of_ints v w h k = absurd cc

and_of_ints : (v w : List Value) → value_types v ≡ IntTy ∷ [] → value_types w ≡ IntTy ∷ [] → operate bin.And v w ≡ two_ints both v w
and_of_ints (Int m ∷ []) (Int n ∷ []) h k = refl
and_of_ints (Int m ∷ []) w h k = absurd cc
and_of_ints v w h k = absurd cc

-- ---- sums

pub of_texts_two : (v w : List Value) (cells : List Cell) → value_types v ≡ TextTy ∷ [] → value_types w ≡ TextTy ∷ []
    → of_texts joined_texts (pushed w (pushed v cells)) ≡ Some (pushed (added v w) cells)
of_texts_two (Text a ∷ []) (Text b ∷ []) cells h k = refl
of_texts_two (Text a ∷ []) w cells h k = absurd cc
of_texts_two v w cells h k = absurd cc

pub of_ints_two : (v w : List Value) (cells : List Cell) → value_types v ≡ IntTy ∷ [] → value_types w ≡ IntTy ∷ []
    → of_ints sum (pushed w (pushed v cells)) ≡ Some (pushed (added v w) cells)
of_ints_two (Int m ∷ []) (Int n ∷ []) cells h k = refl
of_ints_two (Int m ∷ []) w cells h k = absurd cc
of_ints_two v w cells h k = absurd cc

pub ints_added : (v w : List Value) → value_types v ≡ IntTy ∷ [] → value_types w ≡ IntTy ∷ [] → value_types (added v w) ≡ IntTy ∷ []
ints_added (Int m ∷ []) (Int n ∷ []) h k = refl
ints_added (Int m ∷ []) w h k = absurd cc
ints_added v w h k = absurd cc

pub texts_added : (v w : List Value) → value_types v ≡ TextTy ∷ [] → value_types w ≡ TextTy ∷ [] → value_types (added v w) ≡ TextTy ∷ []
texts_added (Text a ∷ []) (Text b ∷ []) h k = refl
texts_added (Text a ∷ []) w h k = absurd cc
texts_added v w h k = absurd cc

-- ---- zero

pub not_not : (b : Bool) → not (not b) ≡ b
not_not true = refl
not_not false = refl

pub zero_tested : (w : List Value) (cells : List Cell) → value_types w ≡ IntTy ∷ [] → zero_on_top (pushed w cells) ≡ not (is_true w)
zero_tested (Int n ∷ []) cells h = sym (not_not (is_zero n))
zero_tested w cells h = absurd cc

-- ---- types of operators

pub record AreInts (s t r : Ty) : Type 0 where
  pub left : s ≡ IntTy
  pub right : t ≡ IntTy
  pub result : r ≡ IntTy

pub are_ints : (s t r : Ty) → ints_type s t ≡ Some r → AreInts s t r
are_ints IntTy IntTy r h = record { left = refl; right = refl; result = cc }
are_ints s t r h = absurd cc

pub same_types : (s t : Ty) → same_type s t ≡ true → s ≡ t
same_types Void Void h = refl
same_types IntTy IntTy h = refl
same_types TextTy TextTy h = refl
same_types ObjectTy ObjectTy h = refl
same_types EffectTy EffectTy h = refl
same_types EventTy EventTy h = refl
same_types Action Action h = refl
same_types (Struct m) (Struct n) h = ap Struct ((Decides-eqb m n).0 h)
same_types Refused Refused h = refl
same_types s t h = absurd cc

on_both : (a b : Bool) → (a && b) ≡ true → (a ≡ true) × (b ≡ true)
on_both true b h = (refl, h)
on_both false b h = absurd cc

pub if_some : {A : Type 0} (b : Bool) (x y : A) → (if b then Some x else None) ≡ Some y → (b ≡ true) × (x ≡ y)
if_some true x y h = (refl, cc)
if_some false x y h = absurd cc

pub record AreCompared (s t r : Ty) : Type 0 where
  pub same : s ≡ t
  pub compared : is_compared s ≡ true
  pub result : r ≡ IntTy

pub are_compared : (s t r : Ty) → comparison_type s t ≡ Some r → AreCompared s t r
are_compared s t r h = let w = if_some (is_compared s && same_type s t) IntTy r h in let b = on_both (is_compared s) (same_type s t) w.0 in
    record { same = same_types s t b.1; compared = b.0; result = sym w.1 }

pub int_types : (structs : Structs) (v : List Value) (t : Ty) → t ≡ IntTy → value_types v ≡ cell_types structs t → value_types v ≡ IntTy ∷ []
int_types structs v t e h = h ∙ ap (cell_types structs) e

-- and gives a value of its place's type
pub compound_type : (o : AssignOperator) (b : BinaryOperator) (s t r : Ty) → applied o ≡ Some b → assigned_type o s t ≡ Some r → r ≡ s
compound_type asg.Set b s t r h k = absurd cc
compound_type asg.Add b IntTy IntTy r h k = cc
compound_type asg.Add b TextTy TextTy r h k = cc
compound_type asg.Add b s t r h k = absurd cc
compound_type o b s t r h k = let i = are_ints s t r k in i.result ∙ sym i.left

-- the operator that an assignment applies has the assignment's types
pub applied_type : (o : AssignOperator) (b : BinaryOperator) (s t r : Ty) → applied o ≡ Some b → assigned_type o s t ≡ Some r → binary_type b s t ≡ Some r
applied_type asg.Set b s t r h k = absurd cc
applied_type asg.Add b s t r h k = let e : bin.Add ≡ b = cc in subst (λ o. binary_type o s t ≡ Some r) e k
applied_type asg.Subtract b s t r h k = let e : bin.Subtract ≡ b = cc in subst (λ o. binary_type o s t ≡ Some r) e k
applied_type asg.Multiply b s t r h k = let e : bin.Multiply ≡ b = cc in subst (λ o. binary_type o s t ≡ Some r) e k
applied_type asg.Divide b s t r h k = let e : bin.Divide ≡ b = cc in subst (λ o. binary_type o s t ≡ Some r) e k
applied_type asg.Remainder b s t r h k = let e : bin.Remainder ≡ b = cc in subst (λ o. binary_type o s t ≡ Some r) e k
applied_type asg.BitAnd b s t r h k = let e : bin.BitAnd ≡ b = cc in subst (λ o. binary_type o s t ≡ Some r) e k
applied_type asg.BitOr b s t r h k = let e : bin.BitOr ≡ b = cc in subst (λ o. binary_type o s t ≡ Some r) e k
applied_type asg.BitXor b s t r h k = let e : bin.BitXor ≡ b = cc in subst (λ o. binary_type o s t ≡ Some r) e k
applied_type asg.ShiftLeft b s t r h k = let e : bin.ShiftLeft ≡ b = cc in subst (λ o. binary_type o s t ≡ Some r) e k
applied_type asg.ShiftRight b s t r h k = let e : bin.ShiftRight ≡ b = cc in subst (λ o. binary_type o s t ≡ Some r) e k
applied_type asg.UnsignedShiftRight b s t r h k = let e : bin.UnsignedShiftRight ≡ b = cc in subst (λ o. binary_type o s t ≡ Some r) e k

-- ---- equality

both_ways : (a b : Bool) → (a ≡ true → b ≡ true) → (b ≡ true → a ≡ true) → a ≡ b
both_ways true b h k = sym (h refl)
both_ways false true h k = k refl
both_ways false false h k = refl

module _ (tested : EqualityIsTested) where
  equal_values : (v w : List Value) → values_eq v w ≡ true → v ≡ w
  equal_values [] [] h = refl
  equal_values [] (b ∷ w) h = absurd cc
  equal_values (a ∷ v) [] h = absurd cc
  equal_values (a ∷ v) (b ∷ w) h =
      let t = on_both (value_eq a b) (values_eq v w) h in
      let first : a ≡ b = (tested a b).0 t.0 in
      let rest : v ≡ w = equal_values v w t.1 in
      cc

  value_itself : (v : List Value) → values_eq v v ≡ true
  value_itself [] = refl
  value_itself (a ∷ v) = rw ((tested a a).1 refl) (value_itself v)

  -- the machine finds the parts of both the other way round
  reversed_equal : (v w : List Value) → values_eq (reverse w) (reverse v) ≡ values_eq v w
  reversed_equal v w = both_ways (values_eq (reverse w) (reverse v)) (values_eq v w)
      (λ h. let e = equal_values (reverse w) (reverse v) h in
      let f : w ≡ v = sym (reverse-reverse w) ∙ ap reverse e ∙ reverse-reverse v in
      subst (λ u. values_eq v u ≡ true) (sym f) (value_itself v))
      (λ h. let e = equal_values v w h in subst (λ u. values_eq (reverse u) (reverse v) ≡ true) e (value_itself (reverse v)))

  runs_tested : (answer : Bool → Bool) (v w : List Value) (cells : List Cell) → value_types v ≡ value_types w
      → runs_eq answer (reverse w) (reverse v) cells ≡ Some (pushed (test_value (answer (values_eq v w))) cells)
  runs_tested answer v w cells h =
      ap (λ (b : Bool). if b then Some (Holds (Int (as_int (answer (values_eq (reverse w) (reverse v))))) ∷ cells) else None) (types_alike w v (sym h))
      ∙ ap (λ (b : Bool). Some (Holds (Int (as_int (answer b))) ∷ cells)) (reversed_equal v w)

  -- two values of one part
  pair_tested : (answer : Bool → Bool) (t : Ty) (v w : List Value) (cells : List Cell) → value_types v ≡ t ∷ [] → value_types w ≡ t ∷ []
      → pair_compared answer (Some t) (pushed w (pushed v cells)) ≡ Some (pushed (test_value (answer (values_eq v w))) cells)
  pair_tested answer t (a ∷ []) (b ∷ []) cells h k =
      let same : tys_eq (value_types (b ∷ a ∷ [])) (t ∷ t ∷ []) ≡ true =
      ap (λ us. tys_eq us (t ∷ t ∷ [])) (ap (λ us. us ++ value_types (a ∷ [])) k ∙ ap (λ us. t ∷ us) h) ∙ tys_same (t ∷ t ∷ []) in
      ap (λ (c : Bool). if c then runs_eq answer (b ∷ []) (a ∷ []) cells else None) same
      ∙ runs_tested answer (a ∷ []) (b ∷ []) cells (h ∙ sym k)
  pair_tested answer t (a ∷ []) [] cells h k = absurd cc
  pair_tested answer t (a ∷ []) (b ∷ c ∷ w) cells h k = absurd cc
  pair_tested answer t [] w cells h k = absurd cc
  pair_tested answer t (a ∷ b ∷ v) w cells h k = absurd cc

  -- two structs of so many parts
  structs_tested : (answer : Bool → Bool) (n : ℕ) (v w : List Value) (cells : List Cell) → length v ≡ n → value_types v ≡ value_types w
      → runs_compared answer (cell_count (bytes_of n)) (pushed w (pushed v cells)) ≡ Some (pushed (test_value (answer (values_eq v w))) cells)
  structs_tested answer n v w cells size same =
      let stack = pushed w (pushed v cells) in
      let longs : length w ≡ n = sym (types_count v w same) ∙ size in
      let upper : values_on n stack ≡ Some (reverse w) = ap (λ m. values_on m stack) (sym longs) ∙ values_pushed w (pushed v cells) in
      let beneath : drop n stack ≡ pushed v cells = ap (λ m. drop m stack) (sym longs) ∙ dropped_pushed w (pushed v cells) in
      let lower : values_on n (drop n stack) ≡ Some (reverse v) = ap (values_on n) beneath ∙ ap (λ m. values_on m (pushed v cells)) (sym size) ∙ values_pushed v cells in
      let rest : drop (n + n) stack ≡ cells = sym (drop-drop n n stack) ∙ ap (drop n) beneath ∙ ap (λ m. drop m (pushed v cells)) (sym size) ∙ dropped_pushed v cells in
      ap (λ c. option_and_then (λ m. option_and_then (λ u. option_and_then (λ l. runs_eq answer u l (drop (m + m) stack)) (values_on m (drop m stack))) (values_on m stack)) c) (count_of n)
      ∙ ap (option_and_then (λ u. option_and_then (λ l. runs_eq answer u l (drop (n + n) stack)) (values_on n (drop n stack)))) upper
      ∙ ap (option_and_then (λ l. runs_eq answer (reverse w) l (drop (n + n) stack))) lower
      ∙ ap (runs_eq answer (reverse w) (reverse v)) rest
      ∙ runs_tested answer v w cells same

  -- ---- what the instruction of an operator does

  pub record OperatorDoes (structs : Structs) (o : BinaryOperator) (s r : Ty) (v w : List Value) (cells : List Cell) (self bp : ℕ) : Type 0 where
    pub after : cells_after (operation o s (length (cell_types structs s))) self (record { cells = pushed w (pushed v cells); bp = bp }) ≡ Some (pushed (operate o v w) cells)
    pub undivided : (is_division (operation o s (length (cell_types structs s))) && zero_on_top (pushed w (pushed v cells))) ≡ divides_by_zero o w
    pub typed : value_types (operate o v w) ≡ cell_types structs r

  ints_do : (structs : Structs) (o : BinaryOperator) (f : ℤ → ℤ → ℤ) (s t r : Ty) (v w : List Value) (cells : List Cell) (self bp : ℕ) → AreInts s t r
      → value_types v ≡ cell_types structs s → value_types w ≡ cell_types structs t → operate o v w ≡ two_ints f v w
      → ((stack : List Cell) → cells_after (operation o s (length (cell_types structs s))) self (record { cells = stack; bp = bp }) ≡ of_ints f stack)
      → (value_types w ≡ IntTy ∷ [] → (is_division (operation o s (length (cell_types structs s))) && zero_on_top (pushed w (pushed v cells))) ≡ divides_by_zero o w)
      → OperatorDoes structs o s r v w cells self bp
  ints_do structs o f s t r v w cells self bp i tv tw gives acts division =
      let a = int_types structs v s i.left tv in
      let b = int_types structs w t i.right tw in
      record {
        after = acts (pushed w (pushed v cells)) ∙ of_two f v w cells a b ∙ ap (λ u. Some (pushed u cells)) (sym gives);
        undivided = division b;
        typed = ap value_types gives ∙ two_typed f v w a b ∙ ap (cell_types structs) (sym i.result);
      }

  adds : (structs : Structs) (s t r : Ty) (v w : List Value) (cells : List Cell) (self bp : ℕ) → sum_type s t ≡ Some r
      → value_types v ≡ cell_types structs s → value_types w ≡ cell_types structs t → OperatorDoes structs bin.Add s r v w cells self bp
  unfolding cells_after
  adds structs IntTy IntTy r v w cells self bp h tv tw = record {
    after = of_ints_two v w cells tv tw;
    undivided = refl;
    typed = let e : IntTy ≡ r = cc in ints_added v w tv tw ∙ ap (cell_types structs) e;
  }
  adds structs TextTy TextTy r v w cells self bp h tv tw = record {
    after = of_texts_two v w cells tv tw;
    undivided = refl;
    typed = let e : TextTy ≡ r = cc in texts_added v w tv tw ∙ ap (cell_types structs) e;
  }
  adds structs s t r v w cells self bp h tv tw = absurd cc

  -- the comparison of two values of a type
  compares : (structs : Structs) (answer : Bool → Bool) (s : Ty) (v w : List Value) (cells : List Cell) → is_compared s ≡ true
      → value_types v ≡ cell_types structs s → value_types w ≡ cell_types structs s
      → compared answer (comparison_kind s) (comparison_size s (length (cell_types structs s))) (pushed w (pushed v cells)) ≡ Some (pushed (test_value (answer (values_eq v w))) cells)
  unfolding type_of_both
  compares structs answer IntTy v w cells c tv tw = pair_tested answer IntTy v w cells tv tw
  compares structs answer TextTy v w cells c tv tw = pair_tested answer TextTy v w cells tv tw
  compares structs answer ObjectTy v w cells c tv tw = pair_tested answer ObjectTy v w cells tv tw
  compares structs answer EffectTy v w cells c tv tw = pair_tested answer EffectTy v w cells tv tw
  compares structs answer EventTy v w cells c tv tw = pair_tested answer EventTy v w cells tv tw
  compares structs answer (Struct k) v w cells c tv tw =
      structs_tested answer (length (cell_types structs (Struct k))) v w cells (sym (length-map v type_of) ∙ ap length tv) (tv ∙ sym tw)
  compares structs answer Void v w cells c tv tw = absurd cc
  compares structs answer Action v w cells c tv tw = absurd cc
  compares structs answer Refused v w cells c tv tw = absurd cc

  pub operator_does : (structs : Structs) (o : BinaryOperator) (s t r : Ty) (v w : List Value) (cells : List Cell) (self bp : ℕ) → binary_type o s t ≡ Some r
      → value_types v ≡ cell_types structs s → value_types w ≡ cell_types structs t → OperatorDoes structs o s r v w cells self bp
  unfolding cells_after
  operator_does structs bin.Or s t r v w cells self bp h tv tw =
      let i = are_ints s t r h in
      ints_do structs bin.Or either s t r v w cells self bp i tv tw (or_of_ints v w (int_types structs v s i.left tv) (int_types structs w t i.right tw)) (λ stack. refl) (λ b. refl)
  operator_does structs bin.And s t r v w cells self bp h tv tw =
      let i = are_ints s t r h in
      ints_do structs bin.And both s t r v w cells self bp i tv tw (and_of_ints v w (int_types structs v s i.left tv) (int_types structs w t i.right tw)) (λ stack. refl) (λ b. refl)
  operator_does structs bin.BitOr s t r v w cells self bp h tv tw = ints_do structs bin.BitOr bits_or s t r v w cells self bp (are_ints s t r h) tv tw refl (λ stack. refl) (λ b. refl)
  operator_does structs bin.BitXor s t r v w cells self bp h tv tw = ints_do structs bin.BitXor bits_xor s t r v w cells self bp (are_ints s t r h) tv tw refl (λ stack. refl) (λ b. refl)
  operator_does structs bin.BitAnd s t r v w cells self bp h tv tw = ints_do structs bin.BitAnd bits_and s t r v w cells self bp (are_ints s t r h) tv tw refl (λ stack. refl) (λ b. refl)
  operator_does structs bin.Equal s t r v w cells self bp h tv tw =
      let c = are_compared s t r h in
      record {
        after = compares structs (λ b. b) s v w cells c.compared tv (tw ∙ ap (cell_types structs) (sym c.same));
        undivided = refl;
        typed = ap (cell_types structs) (sym c.result);
      }
  operator_does structs bin.NotEqual s t r v w cells self bp h tv tw =
      let c = are_compared s t r h in
      record {
        after = compares structs not s v w cells c.compared tv (tw ∙ ap (cell_types structs) (sym c.same));
        undivided = refl;
        typed = ap (cell_types structs) (sym c.result);
      }
  operator_does structs bin.GreaterOrEqual s t r v w cells self bp h tv tw = ints_do structs bin.GreaterOrEqual greater_or_equal s t r v w cells self bp (are_ints s t r h) tv tw refl
      (λ stack. refl) (λ b. refl)
  operator_does structs bin.Greater s t r v w cells self bp h tv tw = ints_do structs bin.Greater greater s t r v w cells self bp (are_ints s t r h) tv tw refl (λ stack. refl) (λ b. refl)
  operator_does structs bin.Less s t r v w cells self bp h tv tw = ints_do structs bin.Less less s t r v w cells self bp (are_ints s t r h) tv tw refl (λ stack. refl) (λ b. refl)
  operator_does structs bin.LessOrEqual s t r v w cells self bp h tv tw = ints_do structs bin.LessOrEqual less_or_equal s t r v w cells self bp (are_ints s t r h) tv tw refl (λ stack. refl)
      (λ b. refl)
  operator_does structs bin.ShiftLeft s t r v w cells self bp h tv tw = ints_do structs bin.ShiftLeft shift_left s t r v w cells self bp (are_ints s t r h) tv tw refl (λ stack. refl) (λ b. refl)
  operator_does structs bin.ShiftRight s t r v w cells self bp h tv tw = ints_do structs bin.ShiftRight shift_right s t r v w cells self bp (are_ints s t r h) tv tw refl (λ stack. refl) (λ b. refl)
  operator_does structs bin.UnsignedShiftRight s t r v w cells self bp h tv tw =
      ints_do structs bin.UnsignedShiftRight shift_right_unsigned s t r v w cells self bp (are_ints s t r h) tv tw refl (λ stack. refl) (λ b. refl)
  operator_does structs bin.Add s t r v w cells self bp h tv tw = adds structs s t r v w cells self bp h tv tw
  operator_does structs bin.Subtract s t r v w cells self bp h tv tw = ints_do structs bin.Subtract difference s t r v w cells self bp (are_ints s t r h) tv tw refl (λ stack. refl) (λ b. refl)
  operator_does structs bin.Multiply s t r v w cells self bp h tv tw = ints_do structs bin.Multiply product s t r v w cells self bp (are_ints s t r h) tv tw refl (λ stack. refl) (λ b. refl)
  operator_does structs bin.Divide s t r v w cells self bp h tv tw =
      ints_do structs bin.Divide quotient s t r v w cells self bp (are_ints s t r h) tv tw refl (λ stack. refl) (λ b. zero_tested w (pushed v cells) b)
  operator_does structs bin.Remainder s t r v w cells self bp h tv tw =
      ints_do structs bin.Remainder remainder s t r v w cells self bp (are_ints s t r h) tv tw refl (λ stack. refl) (λ b. zero_tested w (pushed v cells) b)

-- ---- every operator's instruction changes nothing but the cells

pub operation_acts : (table : EngineTable) (f : Frame) (o : BinaryOperator) (s : Ty) (n : ℕ) → act table (operation o s n) f ≡ moved (operation o s n) f
unfolding act
operation_acts table f bin.Or s n = refl
operation_acts table f bin.And s n = refl
operation_acts table f bin.BitOr s n = refl
operation_acts table f bin.BitXor s n = refl
operation_acts table f bin.BitAnd s n = refl
operation_acts table f bin.Equal s n = refl
operation_acts table f bin.NotEqual s n = refl
operation_acts table f bin.GreaterOrEqual s n = refl
operation_acts table f bin.Greater s n = refl
operation_acts table f bin.Less s n = refl
operation_acts table f bin.LessOrEqual s n = refl
operation_acts table f bin.ShiftLeft s n = refl
operation_acts table f bin.ShiftRight s n = refl
operation_acts table f bin.UnsignedShiftRight s n = refl
operation_acts table f bin.Add s n = refl
operation_acts table f bin.Subtract s n = refl
operation_acts table f bin.Multiply s n = refl
operation_acts table f bin.Divide s n = refl
operation_acts table f bin.Remainder s n = refl

pub operation_passes : (o : BinaryOperator) (s : Ty) (n place : ℕ) (cells : List Cell) → place_after (operation o s n) place cells ≡ place + op_size (operation o s n)
operation_passes bin.Or s n place cells = refl
operation_passes bin.And s n place cells = refl
operation_passes bin.BitOr s n place cells = refl
operation_passes bin.BitXor s n place cells = refl
operation_passes bin.BitAnd s n place cells = refl
operation_passes bin.Equal s n place cells = refl
operation_passes bin.NotEqual s n place cells = refl
operation_passes bin.GreaterOrEqual s n place cells = refl
operation_passes bin.Greater s n place cells = refl
operation_passes bin.Less s n place cells = refl
operation_passes bin.LessOrEqual s n place cells = refl
operation_passes bin.ShiftLeft s n place cells = refl
operation_passes bin.ShiftRight s n place cells = refl
operation_passes bin.UnsignedShiftRight s n place cells = refl
operation_passes bin.Add s n place cells = refl
operation_passes bin.Subtract s n place cells = refl
operation_passes bin.Multiply s n place cells = refl
operation_passes bin.Divide s n place cells = refl
operation_passes bin.Remainder s n place cells = refl

-- an assignment other than `=` has the instruction of the operator that it applies
pub combination_is : (o : AssignOperator) (b : BinaryOperator) (t : Ty) (n : ℕ) → applied o ≡ Some b → combination o t ≡ Instruction (operation b t n) ∷ []
combination_is asg.Set b t n h = absurd cc
combination_is asg.Add b t n h = let e : bin.Add ≡ b = cc in ap (λ o. Instruction (operation o t n) ∷ []) e
combination_is asg.Subtract b t n h = let e : bin.Subtract ≡ b = cc in ap (λ o. Instruction (operation o t n) ∷ []) e
combination_is asg.Multiply b t n h = let e : bin.Multiply ≡ b = cc in ap (λ o. Instruction (operation o t n) ∷ []) e
combination_is asg.Divide b t n h = let e : bin.Divide ≡ b = cc in ap (λ o. Instruction (operation o t n) ∷ []) e
combination_is asg.Remainder b t n h = let e : bin.Remainder ≡ b = cc in ap (λ o. Instruction (operation o t n) ∷ []) e
combination_is asg.BitAnd b t n h = let e : bin.BitAnd ≡ b = cc in ap (λ o. Instruction (operation o t n) ∷ []) e
combination_is asg.BitOr b t n h = let e : bin.BitOr ≡ b = cc in ap (λ o. Instruction (operation o t n) ∷ []) e
combination_is asg.BitXor b t n h = let e : bin.BitXor ≡ b = cc in ap (λ o. Instruction (operation o t n) ∷ []) e
combination_is asg.ShiftLeft b t n h = let e : bin.ShiftLeft ≡ b = cc in ap (λ o. Instruction (operation o t n) ∷ []) e
combination_is asg.ShiftRight b t n h = let e : bin.ShiftRight ≡ b = cc in ap (λ o. Instruction (operation o t n) ∷ []) e
combination_is asg.UnsignedShiftRight b t n h = let e : bin.UnsignedShiftRight ≡ b = cc in ap (λ o. Instruction (operation o t n) ∷ []) e

pub applied_reads : (o : AssignOperator) (b : BinaryOperator) → applied o ≡ Some b → is_set o ≡ false
applied_reads asg.Set b h = absurd cc
applied_reads asg.Add b h = refl
applied_reads asg.Subtract b h = refl
applied_reads asg.Multiply b h = refl
applied_reads asg.Divide b h = refl
applied_reads asg.Remainder b h = refl
applied_reads asg.BitAnd b h = refl
applied_reads asg.BitOr b h = refl
applied_reads asg.BitXor b h = refl
applied_reads asg.ShiftLeft b h = refl
applied_reads asg.ShiftRight b h = refl
applied_reads asg.UnsignedShiftRight b h = refl
