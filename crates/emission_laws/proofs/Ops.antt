-- The rule of each instruction that expressions and statements emit.
use Rattle.std.proofs.Common.{arith, ◌≡◌, ◌≤◌, ◌<◌, ◌+◌, ◌-◌, ◌&&◌, cond, ℕ, List, [], ◌∷◌, ◌++◌, length, map, take, drop, reverse, Some, None, Bool, true, false, sym, ◌∙◌, ap, refl, subst}
use Rattle.std.proofs.Common.{append_assoc, append-nil}
use Rattle.std.specs.Prelude.{ℤ}
use Rattle.std.proofs.lemmas.Bool.Decides.{Decides-eqb}
use Rattle.std.proofs.lemmas.List.{length-reverse}
use Rattle.nss_tree.specs.declared.operators.BinaryOperator.{BinaryOperator}
use Rattle.nss_tree.specs.declared.operators.BinaryOperator.TheVariants as bin
use Rattle.nwq_value.specs.declared.value.Ty.{Ty}
use Rattle.nwq_value.specs.declared.value.Ty.TheVariants.{Void, Int, Text, Object, Effect, Event, Action, Struct, Refused}
use Rattle.nwq_value.specs.declared.engine.Const.{Const}
use Rattle.nwq_value.specs.declared.engine.Const.TheVariants as const
use Rattle.nwq_value.specs.Engine.{EngineTable, const_type}
use Rattle.ncs_code.specs.Plain.{PlainOp}
use Rattle.ncs_code.specs.Plain as ops
use Rattle.ncs_emit.specs.declared.jump.Jump.{Jump}
use Rattle.ncs_emit.specs.declared.jump.Jump.TheVariants.{Jmp, Jsr, Jz, Jnz}
use Rattle.ncs_emit.specs.Labelled.{jump_over}
use Rattle.typing_rules.specs.Types.{is_compared, same_type, of_ints, sum_type, comparison_type, binary_type}
use Rattle.typing_rules.specs.Cells.{Structs, cell_types, cells}
use Rattle.emission_rules.specs.Layout.{Layout}
use Rattle.emission_rules.specs.Operations.{beneath, bytes_of, cell_kind, literal_of, operation}
use Rattle.emission_rules.specs.Expressions.{Home, InFrame, InGlobals, read, write, increment, decrement}
use Rattle.emission_rules.specs.Bounds.{IsCell}
use Rattle.stack_shape.specs.declared.shape.Slot.{Slot}
use Rattle.stack_shape.specs.declared.shape.Slot.TheVariants.{Of}
use Rattle.stack_shape.specs.Ranges.{cell_count, range_at}
use Rattle.stack_shape.specs.StackEffects.{exchange, copied, written, range_int_changed, runs, type_of_one, type_of_both, compared, added, reckoned, negated, stack_effect}
use Rattle.stack_shape.specs.Rule.{affected, rule}
use Rattle.emission_laws.specs.Spots.{IsTest}
use Rattle.emission_laws.proofs.Cells.{Ground, over, affects, exchanged, types_there, Seen, copied_there, written_there, counted_there, removed_there, kept_there, runs_there}
use Rattle.source_laws.specs.RangeLemmas.{range_there}

-- ---- types by their rules

pub of_int_types : (P : Ty → Ty → Ty → Type 0) → P Int Int Int → (s t u : Ty) → of_ints s t ≡ Some u → P s t u
of_int_types P p Int Int u e = let same : Int ≡ u = cc in subst (P Int Int) same p
of_int_types P p s t u e = absurd cc

pub of_sum_types : (P : Ty → Ty → Ty → Type 0) → P Int Int Int → P Text Text Text → (s t u : Ty) → sum_type s t ≡ Some u → P s t u
of_sum_types P p q Int Int u e = let same : Int ≡ u = cc in subst (P Int Int) same p
of_sum_types P p q Text Text u e = let same : Text ≡ u = cc in subst (P Text Text) same q
of_sum_types P p q s t u e = absurd cc

pub same_is : (s t : Ty) → same_type s t ≡ true → s ≡ t
same_is Void Void h = refl
same_is Int Int h = refl
same_is Text Text h = refl
same_is Object Object h = refl
same_is Effect Effect h = refl
same_is Event Event h = refl
same_is Action Action h = refl
same_is (Struct m) (Struct n) h = ap Struct ((Decides-eqb m n).0 h)
same_is Refused Refused h = refl
same_is s t h = absurd cc

pub of_compared_types : (P : Ty → Ty → Ty → Type 0) → ((s : Ty) → is_compared s ≡ true → P s s Int) → (s t u : Ty) → comparison_type s t ≡ Some u → P s t u
of_compared_types P p s t u e = on (is_compared s) (same_type s t) refl refl e
  where
    on : (a b : Bool) → is_compared s ≡ a → same_type s t ≡ b → cond (a && b) (Some Int) None ≡ Some u → P s t u
    on true true c d e = let same : Int ≡ u = cc in subst (P s t) same (subst (λ v. P s v Int) (same_is s t d) (p s c))
    on true false c d e = absurd cc
    on false b c d e = absurd cc

-- where a place's cells stand
pub record InUnder (l : Layout) (under : List Slot) (place : ℕ) (us : List Ty) : Type 0 where
  pub types : List Ty
  pub is : under ≡ map Of types
  pub many : length types ≡ l.globals
  pub seen : Seen types place us

abbrev pub Sees : Layout → List Slot → List Ty → List Ty → Home → Type 0
Sees l under ts us (InFrame place) = Seen ts place us
Sees l under ts us (InGlobals place) = InUnder l under place us

module _ (header : EngineTable) (g : Ground) (p : ℕ) where
  -- an instruction that takes these types and gives those
  abbrev pub Turns : PlainOp → List Ty → List Ty → Type 0
  Turns op before after = rule header op (over g p before) ≡ Some (over g p after)

  pub const_turns : (k : Const) (ts : List Ty) → Turns (ops.Const (literal_of k)) ts (const_type k ∷ ts)
  unfolding rule stack_effect
  const_turns (const.Int n) ts = refl
  const_turns (const.Text bytes) ts = refl
  const_turns const.SelfObject ts = refl
  const_turns const.InvalidObject ts = refl

  pub int_turns : (n : ℤ) (ts : List Ty) → Turns (ops.Const (ops.Int n)) ts (Int ∷ ts)
  unfolding rule stack_effect
  int_turns n ts = refl

  pub started_turns : (t : Ty) (ts : List Ty) → IsCell t → Turns (ops.RsAdd (cell_kind t)) ts (t ∷ ts)
  unfolding rule stack_effect type_of_one
  started_turns Int ts is = refl
  started_turns Text ts is = refl
  started_turns Object ts is = refl
  started_turns Effect ts is = refl
  started_turns Event ts is = refl
  started_turns Void ts is = absurd is
  started_turns Action ts is = absurd is
  started_turns (Struct n) ts is = absurd is
  started_turns Refused ts is = absurd is

  pub read_turns : (l : Layout) (depth count : ℕ) (h : Home) (us ts : List Ty) → depth ≡ length ts → count ≡ length us → 0 < length us → Sees l g.under ts us h
      → Turns (read l depth count h) ts (us ++ ts)
  unfolding rule stack_effect
  read_turns l depth count (InFrame place) us ts d c some s = rw (d, c) (affects g p [] us ts _ (copied_there s g.mid some))
  read_turns l depth count (InGlobals place) us ts d c some s =
      let same : g.under ≡ map Of s.types ++ [] = s.is ∙ sym (append-nil (map Of s.types)) in
      let range = copied (range_at (beneath (length s.types - place)) (bytes_of (length us))) in
      rw (sym s.many, c) (affects g p [] us ts _ (ap range same ∙ copied_there s.seen [] some))

  pub write_turns : (l : Layout) (depth count : ℕ) (h : Home) (us ts : List Ty) → depth ≡ length (us ++ ts) → count ≡ length us → 0 < length us → Sees l g.under (us ++ ts) us h
      → Turns (write l depth count h) (us ++ ts) (us ++ ts)
  unfolding rule stack_effect
  write_turns l depth count (InFrame place) us ts d c some s =
      rw (d, c) (affects g p [] [] (us ++ ts) _ (written_there s g.mid some (map Of (us ++ ts) ++ g.mid) (types_there us ts g.mid)))
  write_turns l depth count (InGlobals place) us ts d c some s =
      let same : g.under ≡ map Of s.types ++ [] = s.is ∙ sym (append-nil (map Of s.types)) in
      let cells : List Slot = map Of (us ++ ts) ++ g.mid in
      let range = written (range_at (beneath (length s.types - place)) (bytes_of (length us))) cells in
      rw (sym s.many, c) (affects g p [] [] (us ++ ts) _ (ap range same ∙ written_there s.seen [] some cells (types_there us ts g.mid)))

  pub increment_turns : (l : Layout) (depth : ℕ) (h : Home) (ts : List Ty) → depth ≡ length ts → Sees l g.under ts (Int ∷ []) h → Turns (increment l depth h) ts ts
  unfolding rule stack_effect
  increment_turns l depth (InFrame place) ts d s = rw d (affects g p [] [] ts _ (counted_there s g.mid))
  increment_turns l depth (InGlobals place) ts d s =
      let same : g.under ≡ map Of s.types ++ [] = s.is ∙ sym (append-nil (map Of s.types)) in
      rw (sym s.many) (affects g p [] [] ts _ (ap (range_int_changed _) same ∙ counted_there s.seen []))

  pub decrement_turns : (l : Layout) (depth : ℕ) (h : Home) (ts : List Ty) → depth ≡ length ts → Sees l g.under ts (Int ∷ []) h → Turns (decrement l depth h) ts ts
  unfolding rule stack_effect
  decrement_turns l depth (InFrame place) ts d s = rw d (affects g p [] [] ts _ (counted_there s g.mid))
  decrement_turns l depth (InGlobals place) ts d s =
      let same : g.under ≡ map Of s.types ++ [] = s.is ∙ sym (append-nil (map Of s.types)) in
      rw (sym s.many) (affects g p [] [] ts _ (ap (range_int_changed _) same ∙ counted_there s.seen []))

  pub drop_turns : (us ts : List Ty) → Turns (ops.MovSp (beneath (length us))) (us ++ ts) ts
  unfolding rule stack_effect
  drop_turns us ts = affects g p us [] ts _ (removed_there us ts g.mid)

  pub again_turns : (t : Ty) (ts : List Ty) → Turns (ops.CpTopSp (beneath 1) (bytes_of 1)) (t ∷ ts) (t ∷ t ∷ ts)
  unfolding rule stack_effect
  again_turns t ts = affects g p [] (t ∷ []) (t ∷ ts) _ (ap (λ o. copied o (map Of (t ∷ ts) ++ g.mid)) (range_there 1 0 1 (omega arith) (omega arith)))

  pub cut_turns : (all : List Ty) (before : ℕ) (parts ts : List Ty) → take (length parts) (drop before all) ≡ parts → before + length parts ≤ length all
      → Turns (ops.Destruct (bytes_of (length all)) (bytes_of before) (bytes_of (length parts))) (reverse all ++ ts) (reverse parts ++ ts)
  unfolding rule stack_effect
  cut_turns all before parts ts are inside = affects g p (reverse all) (reverse parts) ts _ (kept_there all before parts ts g.mid are inside)

  pub negate_turns : (ts : List Ty) → Turns (ops.Neg 0x03) (Int ∷ ts) (Int ∷ ts)
  unfolding rule stack_effect negated
  negate_turns ts = affects g p (Int ∷ []) (Int ∷ []) ts _ (exchanged (Int ∷ []) (Int ∷ []) ts g.mid)

  pub complement_turns : (ts : List Ty) → Turns ops.Comp (Int ∷ ts) (Int ∷ ts)
  unfolding rule stack_effect
  complement_turns ts = affects g p (Int ∷ []) (Int ∷ []) ts _ (exchanged (Int ∷ []) (Int ∷ []) ts g.mid)

  pub not_turns : (ts : List Ty) → Turns ops.Not (Int ∷ ts) (Int ∷ ts)
  unfolding rule stack_effect
  not_turns ts = affects g p (Int ∷ []) (Int ∷ []) ts _ (exchanged (Int ∷ []) (Int ∷ []) ts g.mid)

  pub test_turns : (kind : Jump) → IsTest kind → (offset : ℤ) (ts : List Ty) → Turns (jump_over kind offset) (Int ∷ ts) ts
  unfolding rule stack_effect
  test_turns Jmp is offset ts = absurd is
  test_turns Jsr is offset ts = absurd is
  test_turns Jz is offset ts = affects g p (Int ∷ []) [] ts _ (exchanged (Int ∷ []) [] ts g.mid)
  test_turns Jnz is offset ts = affects g p (Int ∷ []) [] ts _ (exchanged (Int ∷ []) [] ts g.mid)

  pub case_turns : (ts : List Ty) → Turns (ops.Equal 0x20 0) (Int ∷ Int ∷ ts) (Int ∷ ts)
  unfolding rule stack_effect compared type_of_both
  case_turns ts = affects g p (Int ∷ Int ∷ []) (Int ∷ []) ts _ (exchanged (Int ∷ Int ∷ []) (Int ∷ []) ts g.mid)

  -- ---- operators

  module _ (structs : Structs) (ts : List Ty) where
    abbrev Gives : PlainOp → Ty → Ty → Ty → Type 0
    Gives op s t u = Turns op (reverse (cell_types structs t) ++ (reverse (cell_types structs s) ++ ts)) (reverse (cell_types structs u) ++ ts)

    abbrev Operates : BinaryOperator → Ty → Ty → Ty → Type 0
    Operates o s t u = Gives (operation o s (cells structs s)) s t u

    two_alike : (t u : Ty) → affected (exchange (t ∷ t ∷ []) (u ∷ []) (map Of (t ∷ t ∷ ts) ++ g.mid)) (over g p (t ∷ t ∷ ts)) ≡ Some (over g p (u ∷ ts))
    two_alike t u = affects g p (t ∷ t ∷ []) (u ∷ []) ts _ (exchanged (t ∷ t ∷ []) (u ∷ []) ts g.mid)

    two_runs : (us : List Ty) (n : ℕ) → n ≡ length us
        → affected (runs (cell_count (bytes_of n)) (map Of (us ++ (us ++ ts)) ++ g.mid)) (over g p (us ++ (us ++ ts))) ≡ Some (over g p (Int ∷ ts))
    two_runs us n is =
        ap (λ m. affected (runs (cell_count (bytes_of m)) (map Of (us ++ (us ++ ts)) ++ g.mid)) (over g p (us ++ (us ++ ts)))) is
        ∙ ap (λ o. affected o (over g p (us ++ (us ++ ts)))) (runs_there us ts g.mid)
        ∙ ap (λ (l : List Ty). affected (Some (record { pops = length (us ++ us); pushes = Int ∷ [] })) (over g p l)) (sym (append_assoc us us ts))
        ∙ affects g p (us ++ us) (Int ∷ []) ts (Some (record { pops = length (us ++ us); pushes = Int ∷ [] })) refl

    equal_gives : (s : Ty) → is_compared s ≡ true → Operates bin.Equal s s Int
    unfolding rule stack_effect compared type_of_both
    equal_gives Int c = two_alike Int Int
    equal_gives Text c = two_alike Text Int
    equal_gives Object c = two_alike Object Int
    equal_gives Effect c = two_alike Effect Int
    equal_gives Event c = two_alike Event Int
    equal_gives (Struct n) c = two_runs (reverse (cell_types structs (Struct n))) (cells structs (Struct n)) (sym (length-reverse (cell_types structs (Struct n))))
    equal_gives Void c = absurd cc
    equal_gives Action c = absurd cc
    equal_gives Refused c = absurd cc

    unequal_gives : (s : Ty) → is_compared s ≡ true → Operates bin.NotEqual s s Int
    unfolding rule stack_effect compared type_of_both
    unequal_gives Int c = two_alike Int Int
    unequal_gives Text c = two_alike Text Int
    unequal_gives Object c = two_alike Object Int
    unequal_gives Effect c = two_alike Effect Int
    unequal_gives Event c = two_alike Event Int
    unequal_gives (Struct n) c = two_runs (reverse (cell_types structs (Struct n))) (cells structs (Struct n)) (sym (length-reverse (cell_types structs (Struct n))))
    unequal_gives Void c = absurd cc
    unequal_gives Action c = absurd cc
    unequal_gives Refused c = absurd cc

    pub operation_turns : (o : BinaryOperator) (s t u : Ty) → binary_type o s t ≡ Some u → Operates o s t u
    unfolding rule stack_effect reckoned added
    operation_turns bin.Or s t u e = of_int_types (Operates bin.Or) (two_alike Int Int) s t u e
    operation_turns bin.And s t u e = of_int_types (Operates bin.And) (two_alike Int Int) s t u e
    operation_turns bin.BitOr s t u e = of_int_types (Operates bin.BitOr) (two_alike Int Int) s t u e
    operation_turns bin.BitXor s t u e = of_int_types (Operates bin.BitXor) (two_alike Int Int) s t u e
    operation_turns bin.BitAnd s t u e = of_int_types (Operates bin.BitAnd) (two_alike Int Int) s t u e
    operation_turns bin.Equal s t u e = of_compared_types (Operates bin.Equal) equal_gives s t u e
    operation_turns bin.NotEqual s t u e = of_compared_types (Operates bin.NotEqual) unequal_gives s t u e
    operation_turns bin.GreaterOrEqual s t u e = of_int_types (Operates bin.GreaterOrEqual) (two_alike Int Int) s t u e
    operation_turns bin.Greater s t u e = of_int_types (Operates bin.Greater) (two_alike Int Int) s t u e
    operation_turns bin.Less s t u e = of_int_types (Operates bin.Less) (two_alike Int Int) s t u e
    operation_turns bin.LessOrEqual s t u e = of_int_types (Operates bin.LessOrEqual) (two_alike Int Int) s t u e
    operation_turns bin.ShiftLeft s t u e = of_int_types (Operates bin.ShiftLeft) (two_alike Int Int) s t u e
    operation_turns bin.ShiftRight s t u e = of_int_types (Operates bin.ShiftRight) (two_alike Int Int) s t u e
    operation_turns bin.UnsignedShiftRight s t u e = of_int_types (Operates bin.UnsignedShiftRight) (two_alike Int Int) s t u e
    operation_turns bin.Add s t u e = of_sum_types (Operates bin.Add) (two_alike Int Int) (two_alike Text Text) s t u e
    operation_turns bin.Subtract s t u e = of_int_types (Operates bin.Subtract) (two_alike Int Int) s t u e
    operation_turns bin.Multiply s t u e = of_int_types (Operates bin.Multiply) (two_alike Int Int) s t u e
    operation_turns bin.Divide s t u e = of_int_types (Operates bin.Divide) (two_alike Int Int) s t u e
    operation_turns bin.Remainder s t u e = of_int_types (Operates bin.Remainder) (two_alike Int Int) s t u e
