-- The code of an expression flows, wherever it stands and whatever lies beneath: with the types of
-- its value on top at its end.
use Rattle.std.proofs.Common.{arith, ◌≡◌, ◌≤◌, ◌<◌, ◌+◌, ◌-◌, ◌⊎◌, inl, inr, cond, ℕ, pos, List, [], ◌∷◌, ◌++◌, length, map, reverse, Option, Some, None, Bool, true, false, slice_get, sym, ◌∙◌, ap}
use Rattle.std.proofs.Common.{refl, subst, append_assoc, append-nil, option_map}
use Rattle.std.proofs.lemmas.Bool.Decides.{nat_tests}
use Rattle.std.proofs.lemmas.List.{reverse-append, length-reverse, length-append, length-map}
use Rattle.std.specs.List.{AllByRecursion}
use Rattle.std.specs.Prelude.{IsFalse}
use Rattle.nss_tree.specs.declared.operators.PrefixOperator.{PrefixOperator}
use Rattle.nss_tree.specs.declared.operators.PrefixOperator.TheVariants as pre
use Rattle.nss_tree.specs.declared.operators.PostfixOperator.{PostfixOperator}
use Rattle.nss_tree.specs.declared.operators.PostfixOperator.TheVariants as post
use Rattle.nss_tree.specs.declared.operators.BinaryOperator.{BinaryOperator}
use Rattle.nss_tree.specs.declared.operators.BinaryOperator.TheVariants as bin
use Rattle.nss_tree.specs.declared.operators.AssignOperator.{AssignOperator}
use Rattle.nss_tree.specs.declared.operators.AssignOperator.TheVariants as asg
use Rattle.nwq_value.specs.declared.value.Ty.{Ty}
use Rattle.nwq_value.specs.declared.value.Ty.TheVariants.{Void, Int, Text, Action}
use Rattle.nwq_value.specs.declared.engine.Const.{Const}
use Rattle.nwq_value.specs.declared.engine.Const.TheVariants as const
use Rattle.nwq_value.specs.declared.engine.Param.{Param}
use Rattle.nwq_value.specs.declared.engine.Routine.{Routine}
use Rattle.nwq_value.specs.Engine.{EngineTable, const_type}
use Rattle.ncs_code.specs.Plain.{PlainOp}
use Rattle.ncs_code.specs.Plain as ops
use Rattle.ncs_emit.specs.declared.jump.Jump.TheVariants.{Jmp, Jsr, Jz}
use Rattle.ncs_emit.specs.Labelled.{Line, Instruction, JumpTo, Label}
use Rattle.typing_rules.specs.declared.places.Place.{Place as NamePlace}
use Rattle.typing_rules.specs.declared.places.Place.TheVariants.{Local, Global, Const as IsConst}
use Rattle.typing_rules.specs.declared.places.Callee.{Callee as Target}
use Rattle.typing_rules.specs.declared.places.Callee.TheVariants.{Unit as InUnit, Engine}
use Rattle.typing_rules.specs.Types.{is_void, binary_type, assigned_type, same_type}
use Rattle.typing_rules.specs.Typed.{TypedExpr, TypedExprs, TypedParameter, literal, name, call, member, prefix, postfix, binary, assign, no_typed, more_typed, type_of, is_place}
use Rattle.typing_rules.specs.Cells.{Structs, cell_types, cells, is_captured}
use Rattle.emission_rules.specs.Layout.{Layout, position}
use Rattle.emission_rules.specs.Operations.{beneath, bytes_of, cell_kind, constant, int_constant, literal_of, started, top_again, operation, combination}
use Rattle.emission_rules.specs.Expressions.{Home, InFrame, InGlobals, moved, home, at_home, read, write, increment, decrement, member_code, prefix_code, postfix_code, shortcut, shortcut_labels}
use Rattle.emission_rules.specs.Expressions.{binary_code, is_set, read_first, cells_first, constants, result_room, call_line as called_line, argument_labels, argument_code, count_arguments}
use Rattle.emission_rules.specs.Expressions.{arguments_cells, emit, emit_all, labels, all_labels}
use Rattle.emission_rules.specs.Bounds.{IsCell, IsType, IsExpr, AreExprs}
use Rattle.stack_shape.specs.declared.shape.Slot.{Slot}
use Rattle.stack_shape.specs.declared.shape.Slot.TheVariants.{Of, Base}
use Rattle.stack_shape.specs.StackEffects.{exchange}
use Rattle.stack_shape.specs.Calls.{is_action, is_callable, action_count, result_types, fits_call, call_effect, argument_types as taken_types}
use Rattle.stack_shape.specs.Stored.{stored_types}
use Rattle.stack_shape.specs.Rule.{affected, rule, called_shape}
use Rattle.stack_rules.specs.Tables.{Callee}
use Rattle.source_meaning.specs.Scripts.{Function}
use Rattle.source_laws.specs.Kept.{Site, In}
use Rattle.source_laws.specs.Laws.{CallsEngine, AllCallEngine}
use Rattle.source_laws.specs.Fine.{AreParts, argument_type, argument_types, AreValues, AreSingle, IsArgument, parameter_type, CallsFunction, CallsRoutine, IsFine, AreFine}
use Rattle.emission_laws.specs.Spots.{Resumes, Spot, GoesStraight}
use Rattle.emission_laws.proofs.Cells.{Ground, over, spot_over, affects, exchanged, Seen, seen_over, seen_part, stored_there, on_top}
use Rattle.emission_laws.proofs.Ops.{of_int_types, of_sum_types, same_is, Sees, Turns, const_turns, int_turns, started_turns, read_turns, write_turns, increment_turns, decrement_turns, again_turns}
use Rattle.emission_laws.proofs.Ops.{cut_turns, negate_turns, complement_turns, not_turns, operation_turns}
use Rattle.emission_laws.proofs.Parts.{and_line, line_and, one, back, call as calling, mark, store, with_label}
use Rattle.emission_laws.proofs.Turns.{Turn, retyped, recounted, seq, seq_line, line_seq, same_types, turn, marked, jumped, tested_by, one_label, two_labels}

-- the types of a value's cells, the top one first
abbrev pub value_types : Structs → Ty → List Ty
value_types structs t = reverse (cell_types structs t)

pub value_length : (structs : Structs) (t : Ty) → cells structs t ≡ length (value_types structs t)
value_length structs t = sym (length-reverse (cell_types structs t))

-- the cells of a function's arguments
abbrev pub parameter_cells : Structs → List TypedParameter → List Ty
parameter_cells structs [] = []
parameter_cells structs (p ∷ ps) = value_types structs p.ty ++ parameter_cells structs ps

-- what a call of a function takes and gives, where these are the globals' types
abbrev pub callee_for : Structs → List Ty → Function → Callee
callee_for structs globals f = record {
  taken = map Of (parameter_cells structs f.parameters) ++ map Of (value_types structs f.result);
  under = map Of globals;
  given = Some (map Of (value_types structs f.result));
}

reverse_more : (t : Ty) (us ts : List Ty) → reverse us ++ (t ∷ ts) ≡ reverse (t ∷ us) ++ ts
reverse_more t us ts = sym (ap (λ (l : List Ty). l ++ ts) (reverse-append (t ∷ []) us) ∙ append_assoc (reverse us) (t ∷ []) ts)

constant_single : (structs : Structs) (k : Const) → value_types structs (const_type k) ≡ const_type k ∷ []
constant_single structs (const.Int n) = refl
constant_single structs (const.Text bytes) = refl
constant_single structs const.SelfObject = refl
constant_single structs const.InvalidObject = refl

module _ (header : EngineTable) (functions : List Function) (x : Site) (bodies total : ℕ) (callee_of : ℕ → Option Callee) (globals : List Ty)
    (callees : (f : ℕ) (fn : Function) → slice_get functions f ≡ Some fn → callee_of f ≡ Some (callee_for x.layout.structs globals fn))
    (globals_seen : (n : ℕ) → In n x.globals → Seen globals (position x.layout n) (value_types x.layout.structs (x.types n)))
    (globals_many : x.layout.globals ≡ x.bp → length globals ≡ x.layout.globals) where
  abbrev l : Layout
  l = x.layout

  abbrev value : Ty → List Ty
  value t = value_types x.layout.structs t

  -- the variables in sight stand among the types
  abbrev pub InSight : List ℕ → List Ty → Type 0
  InSight scope ts = (n : ℕ) → In n scope → Seen ts (position x.layout n) (value (x.types n))

  in_sight_over : (scope : List ℕ) (vs ts : List Ty) → InSight scope ts → InSight scope (vs ++ ts)
  in_sight_over scope vs ts sight n is = seen_over vs ts _ _ (sight n is)

  -- where the globals are made, they lie beneath BP
  abbrev pub Reaches : Ground → Type 0
  Reaches g = x.layout.globals ≡ x.bp → g.under ≡ map Of globals

  abbrev MayCall : TypedExpr → Type 0
  MayCall e = (x.layout.globals ≡ x.bp) ⊎ CallsEngine e

  abbrev MayCallAll : TypedExprs → Type 0
  MayCallAll es = (x.layout.globals ≡ x.bp) ⊎ AllCallEngine es

  may : {A B C : Type 0} → (B → C) → A ⊎ B → A ⊎ C
  may f (inl a) = inl a
  may f (inr b) = inr (f b)

  -- ---- places

  abbrev HomeSees : Ground → List Ty → List Ty → Option Home → Type 0
  HomeSees g ts us None = Unit {0}
  HomeSees g ts us (Some h) = Sees l g.under ts us h × (0 < length us)

  some_of : (t : Ty) → 0 < cells l.structs t → 0 < length (value t)
  some_of t some = omega (arith, some, value_length l.structs t)

  moved_sees : (g : Ground) (ts : List Ty) (all : List Ty) (before : ℕ) (parts : List Ty) (h : Option Home) → HomeSees g ts (reverse all) h → AreParts all before parts
      → HomeSees g ts (reverse parts) (option_map (moved before) h)
  moved_sees g ts all before parts None s are = tt
  moved_sees g ts all before parts (Some (InFrame place)) s are =
      let few = length-reverse parts in
      (seen_part ts place all before parts s.0 are.are are.inside, omega (arith, are.some, few))
  moved_sees g ts all before parts (Some (InGlobals place)) s are =
      let few = length-reverse parts in
      (record { types = s.0.types; is = s.0.is; many = s.0.many; seen = seen_part s.0.types place all before parts s.0.seen are.are are.inside }, omega (arith, are.some, few))

  home_sees : (g : Ground) (scope : List ℕ) (ts : List Ty) (e : TypedExpr) → Reaches g → InSight scope ts → IsFine header functions x scope e → HomeSees g ts (value (type_of e)) (home l e)
  home_sees g scope ts (literal k) reach sight fine = tt
  home_sees g scope ts (name t (Local n)) reach sight fine =
      (subst (λ u. Seen ts (position l n) (value u)) fine.1 (sight n fine.0), some_of t fine.2)
  home_sees g scope ts (name t (Global n)) reach sight fine =
      (record { types = globals; is = reach fine.3; many = globals_many fine.3; seen = subst (λ u. Seen globals (position l n) (value u)) fine.1 (globals_seen n fine.0) }, some_of t fine.2)
  home_sees g scope ts (name t (IsConst k)) reach sight fine = tt
  home_sees g scope ts (call t f es ks) reach sight fine = tt
  home_sees g scope ts (member t e before) reach sight fine =
      moved_sees g ts (cell_types l.structs (type_of e)) before (cell_types l.structs t) (home l e) (home_sees g scope ts e reach sight fine.0) fine.1
  home_sees g scope ts (prefix t o e) reach sight fine = tt
  home_sees g scope ts (postfix t o e) reach sight fine = tt
  home_sees g scope ts (binary t o d e) reach sight fine = tt
  home_sees g scope ts (assign t o d e) reach sight fine = tt

  -- what can be written has a place
  place_home : (e : TypedExpr) → is_place e ≡ true → (h : Home) × (home l e ≡ Some h)
  place_home (name t (Local n)) is = (InFrame (position l n), refl)
  place_home (name t (Global n)) is = (InGlobals (position l n), refl)
  place_home (name t (IsConst k)) is = absurd cc
  place_home (member t e before) is = let h = place_home e is in (moved before h.0, ap (option_map (moved before)) h.1)
  place_home (literal k) is = absurd cc
  place_home (call t f es ks) is = absurd cc
  place_home (prefix t o e) is = absurd cc
  place_home (postfix t o e) is = absurd cc
  place_home (binary t o d e) is = absurd cc
  place_home (assign t o d e) is = absurd cc

  -- the code of a place takes no label
  home_labels : (e : TypedExpr) (h : Home) → home l e ≡ Some h → labels e ≡ 0
  home_labels (literal k) h is = refl
  home_labels (name t p) h is = refl
  home_labels (member t e before) h is = on (λ g same. home_labels e g same) (home l e) refl is
    where
      on : ((g : Home) → home l e ≡ Some g → labels e ≡ 0) → (o : Option Home) → home l e ≡ o → option_map (moved before) o ≡ Some h → labels e ≡ 0
      on rest None same is = absurd cc
      on rest (Some g) same is = rest g same
  home_labels (call t f es ks) h is = absurd cc
  home_labels (prefix t o e) h is = absurd cc
  home_labels (postfix t o e) h is = absurd cc
  home_labels (binary t o d e) h is = absurd cc
  home_labels (assign t o d e) h is = absurd cc

  -- ---- lines

  abbrev pub Code : ((ℕ → Spot) → Type 0) → Ground → ℕ → ℕ → ℕ → ℕ → ℕ → List Ty → List Ty → List Line → Type 0
  Code P g p q n count place before after lines = Turn header total callee_of P g p q n count place before after lines

  read_goes : (h : Home) (depth count : ℕ) → GoesStraight (read l depth count h)
  read_goes (InFrame at) depth count = tt
  read_goes (InGlobals at) depth count = tt

  write_goes : (h : Home) (depth count : ℕ) → GoesStraight (write l depth count h)
  write_goes (InFrame at) depth count = tt
  write_goes (InGlobals at) depth count = tt

  increment_goes : (h : Home) (depth : ℕ) → GoesStraight (increment l depth h)
  increment_goes (InFrame at) depth = tt
  increment_goes (InGlobals at) depth = tt

  decrement_goes : (h : Home) (depth : ℕ) → GoesStraight (decrement l depth h)
  decrement_goes (InFrame at) depth = tt
  decrement_goes (InGlobals at) depth = tt

  module _ {P : (ℕ → Spot) → Type 0} (g : Ground) (p n : ℕ) where
    pub started_flows : (us ts : List Ty) (place : ℕ) → AllByRecursion IsCell us → Code P g p p n 0 place ts (reverse us ++ ts) (started us)
    started_flows [] ts place are = same_types
    started_flows (u ∷ us) ts place are =
        retyped (line_seq (turn (ops.RsAdd (cell_kind u)) tt (started_turns header g p u ts are.0)) (started_flows us (u ∷ ts) _ are.1)) (reverse_more u us ts)

    constants_flow : (ks : List Const) (ts : List Ty) (place : ℕ) → Code P g p p n 0 place ts (map const_type ks ++ ts) (constants ks)
    constants_flow [] ts place = same_types
    constants_flow (k ∷ ks) ts place =
        seq_line (constants_flow ks ts place) (turn (ops.Const (literal_of k)) tt
        (const_turns header g p k (map const_type ks ++ ts)))

    increment_flows : (place depth : ℕ) (ts : List Ty) (h : Option Home) → depth ≡ length ts → HomeSees g ts (Int ∷ []) h → Code P g p p n 0 place ts ts (at_home (increment l depth) h)
    increment_flows place depth ts None d s = same_types
    increment_flows place depth ts (Some h) d s = turn (increment l depth h) (increment_goes h depth) (increment_turns header g p l depth h ts d s.0)

    decrement_flows : (place depth : ℕ) (ts : List Ty) (h : Option Home) → depth ≡ length ts → HomeSees g ts (Int ∷ []) h → Code P g p p n 0 place ts ts (at_home (decrement l depth) h)
    decrement_flows place depth ts None d s = same_types
    decrement_flows place depth ts (Some h) d s = turn (decrement l depth h) (decrement_goes h depth) (decrement_turns header g p l depth h ts d s.0)

  int_value : (t : Ty) → t ≡ Int → value t ≡ Int ∷ []
  int_value t is = ap value is

  -- ---- arguments

  abbrev one_if : Bool → ℕ
  one_if true = 1
  one_if false = 0

  abbrev pub actions_in : TypedExprs → ℕ
  actions_in no_typed = 0
  actions_in (more_typed e es) = actions_in es + one_if (is_captured e)

  abbrev pub argument_cells : TypedExprs → List Ty
  argument_cells no_typed = []
  argument_cells (more_typed e es) = value (type_of e) ++ argument_cells es

  heads_are : {a b : Ty} {us vs : List Ty} → a ∷ us ≡ b ∷ vs → (a ≡ b) × (us ≡ vs)
  heads_are h = (cc, cc)

  argument_is : (e : TypedExpr) (b : Bool) → is_captured e ≡ b → argument_type e ≡ cond b Action (type_of e)
  argument_is e b h = ap (λ c. cond c Action (type_of e)) h

  void_is : (t : Ty) → is_void t ≡ true → t ≡ Void
  void_is Void h = refl
  void_is t h = absurd cc

  no_cells : (e : TypedExpr) → is_captured e ≡ true → value (type_of e) ≡ []
  no_cells e h = ap value (void_is (type_of e) h)

  false_is : (b : Bool) → IsFalse b → b ≡ false
  false_is true h = absurd cc
  false_is false h = refl

  constants_are : (ks : List Const) (ps : List TypedParameter) → map const_type ks ≡ map parameter_type ps → map const_type ks ≡ parameter_cells l.structs ps
  constants_are [] [] h = refl
  constants_are [] (p ∷ ps) h = absurd cc
  constants_are (k ∷ ks) [] h = absurd cc
  constants_are (k ∷ ks) (p ∷ ps) h =
      let e = heads_are h in
      ap (λ (l : List Ty). const_type k ∷ l) (constants_are ks ps e.1)
      ∙ ap (λ (us : List Ty). us ++ parameter_cells l.structs ps) (sym (constant_single l.structs k) ∙ ap value e.0)

  arguments_are : (es : TypedExprs) (ks : List Const) (ps : List TypedParameter) → argument_types es ks ≡ map parameter_type ps → AreValues es
      → argument_cells es ++ map const_type ks ≡ parameter_cells l.structs ps
  arguments_are no_typed ks ps h are = constants_are ks ps h
  arguments_are (more_typed e es) ks [] h are = absurd cc
  arguments_are (more_typed e es) ks (p ∷ ps) h are =
      let same = heads_are h in
      let typed : type_of e ≡ p.ty = sym (argument_is e false (false_is (is_captured e) are.0)) ∙ same.0 in
      append_assoc (value (type_of e)) (argument_cells es) (map const_type ks)
      ∙ ap (λ (us : List Ty). value (type_of e) ++ us) (arguments_are es ks ps same.1 are.1)
      ∙ ap (λ (t : Ty). value t ++ parameter_cells l.structs ps) typed

  no_actions : (es : TypedExprs) → AreValues es → actions_in es ≡ 0
  no_actions no_typed are = refl
  no_actions (more_typed e es) are = omega (arith, no_actions es are.1, ap one_if (false_is (is_captured e) are.0))

  -- of a routine
  record AreTaken (es : TypedExprs) (ks : List Const) (ps : List Param) : Type 0 where
    types : argument_cells es ++ map const_type ks ≡ taken_types ps
    actions : actions_in es ≡ action_count ps

  taken_value : (p : Param) (ps : List Param) → is_action p.ty ≡ false → (taken_types (p ∷ ps) ≡ p.ty ∷ taken_types ps) × (action_count (p ∷ ps) ≡ action_count ps)
  taken_value p ps h = (ap (λ b. cond b (taken_types ps) (p.ty ∷ taken_types ps)) h, ap (λ b. cond b (action_count ps + 1) (action_count ps)) h)

  taken_action : (p : Param) (ps : List Param) → is_action p.ty ≡ true → (taken_types (p ∷ ps) ≡ taken_types ps) × (action_count (p ∷ ps) ≡ action_count ps + 1)
  taken_action p ps h = (ap (λ b. cond b (taken_types ps) (p.ty ∷ taken_types ps)) h, ap (λ b. cond b (action_count ps + 1) (action_count ps)) h)

  const_value : (k : Const) → is_action (const_type k) ≡ false
  const_value (const.Int n) = refl
  const_value (const.Text bytes) = refl
  const_value const.SelfObject = refl
  const_value const.InvalidObject = refl

  constants_taken : (ks : List Const) (ps : List Param) → map const_type ks ≡ map (λ p. p.ty) ps → AreTaken no_typed ks ps
  constants_taken [] [] h = record { types = refl; actions = refl }
  constants_taken [] (p ∷ ps) h = absurd cc
  constants_taken (k ∷ ks) [] h = absurd cc
  constants_taken (k ∷ ks) (p ∷ ps) h =
      let e = heads_are h in
      let rest = constants_taken ks ps e.1 in
      let t = taken_value p ps (ap is_action (sym e.0) ∙ const_value k) in
      record {
        types = ap (λ (l : List Ty). const_type k ∷ l) rest.types ∙ ap (λ (u : Ty). u ∷ taken_types ps) e.0 ∙ sym t.0;
        actions = rest.actions ∙ sym t.1;
      }

  arguments_taken : (scope : List ℕ) (es : TypedExprs) (ks : List Const) (ps : List Param) → argument_types es ks ≡ map (λ p. p.ty) ps → AreSingle l.structs ps
      → AreFine header functions x scope es → AreTaken es ks ps
  arguments_taken scope no_typed ks ps h single fine = constants_taken ks ps h
  arguments_taken scope (more_typed e es) ks [] h single fine = absurd cc
  arguments_taken scope (more_typed e es) ks (p ∷ ps) h single fine = let same = heads_are h in on same.0 (arguments_taken scope es ks ps same.1 single.1 fine.2) (is_captured e) refl
    where
      on : argument_type e ≡ p.ty → AreTaken es ks ps → (b : Bool) → is_captured e ≡ b → AreTaken (more_typed e es) ks (p ∷ ps)
      on first rest true c =
          let t = taken_action p ps (ap is_action (sym first ∙ argument_is e true c)) in
          record {
            types = append_assoc (value (type_of e)) (argument_cells es) (map const_type ks)
                ∙ ap (λ (us : List Ty). us ++ (argument_cells es ++ map const_type ks)) (no_cells e c) ∙ rest.types ∙ sym t.0;
            actions = omega (arith, rest.actions, t.1, ap one_if c);
          }
      on first rest false c =
          let typed : type_of e ≡ p.ty = sym (argument_is e false c) ∙ first in
          let t = taken_value p ps (ap is_action (sym typed) ∙ fine.1.value c) in
          let alone : value (type_of e) ≡ p.ty ∷ [] = ap value typed ∙ ap reverse single.0 in
          record {
            types = append_assoc (value (type_of e)) (argument_cells es) (map const_type ks)
                ∙ ap (λ (us : List Ty). us ++ (argument_cells es ++ map const_type ks)) alone
                ∙ ap (λ (us : List Ty). p.ty ∷ us) rest.types ∙ sym t.0;
            actions = omega (arith, rest.actions, t.1, ap one_if c);
          }

  arguments_count : (es : TypedExprs) (ks : List Const) → length (argument_types es ks) ≡ count_arguments es + length ks
  arguments_count no_typed ks = length-map ks const_type ∙ omega arith
  arguments_count (more_typed e es) ks = omega (arith, arguments_count es ks)

  result_single : (t : Ty) → reverse (result_types t) ≡ result_types t
  result_single Void = refl
  result_single t = refl

  fits : (r : Routine) (count pending : ℕ) → is_callable r ≡ true → count ≡ length r.params → action_count r.params ≤ pending → fits_call r count pending ≡ true
  unfolding fits_call
  fits r count pending h e less = rw (h, e) (grind (arith, nat_tests))

  effect_is : (r : Routine) (count pending : ℕ) (args ts : List Ty) (mid : List Slot) → is_callable r ≡ true → count ≡ length r.params → action_count r.params ≤ pending
      → args ≡ taken_types r.params → call_effect r count pending (map Of (args ++ ts) ++ mid) ≡ Some (record { pops = length args; pushes = result_types r.result })
  unfolding call_effect
  effect_is r count pending args ts mid h e less same =
      ap (λ b. cond b (exchange (taken_types r.params) (result_types r.result) (map Of (args ++ ts) ++ mid)) None) (fits r count pending h e less)
      ∙ ap (λ (us : List Ty). exchange us (result_types r.result) (map Of (args ++ ts) ++ mid)) (sym same)
      ∙ exchanged args (result_types r.result) ts mid

  engine_turns : (g : Ground) (p a number count : ℕ) (r : Routine) (args ts : List Ty) → slice_get header.routines number ≡ Some r → is_callable r ≡ true → count ≡ length r.params
      → a ≡ action_count r.params → args ≡ taken_types r.params
      → rule header (ops.Action number count) (over g (p + a) (args ++ ts)) ≡ Some (over g p (result_types r.result ++ ts))
  unfolding rule
  engine_turns g p a number count r args ts is callable e f same =
      let left : p + a - action_count r.params ≡ p = omega (arith, f) in
      ap (λ o. called_shape o count (over g (p + a) (args ++ ts))) is
      ∙ ap (λ (q : ℕ). affected (call_effect r count (p + a) (map Of (args ++ ts) ++ g.mid)) (over g q (args ++ ts))) left
      ∙ affects g p args (result_types r.result) ts _ (effect_is r count (p + a) args ts g.mid callable e (omega (arith, f)) same)

  module _ {P : (ℕ → Spot) → Type 0} (g : Ground) (p n place : ℕ) (scope : List ℕ) (t : Ty) (es : TypedExprs) (ks : List Const) (ts : List Ty) where
    call_engine : (number : ℕ) → CallsRoutine header l.structs t number es ks → AreFine header functions x scope es
        → Code P g (p + actions_in es) p n 0 place (argument_cells es ++ (map const_type ks ++ ts)) (value t ++ ts) (Instruction (ops.Action number (count_arguments es + length ks)) ∷ [])
    call_engine number c fine =
        let taken = arguments_taken scope es ks c.routine.params c.arguments c.single fine in
        let count : count_arguments es + length ks ≡ length c.routine.params = sym (arguments_count es ks) ∙ ap length c.arguments ∙ length-map c.routine.params (λ p. p.ty) in
        let before : argument_cells es ++ (map const_type ks ++ ts) ≡ (argument_cells es ++ map const_type ks) ++ ts = sym (append_assoc (argument_cells es) (map const_type ks) ts) in
        let given : value t ≡ result_types c.routine.result = ap reverse c.result ∙ result_single c.routine.result in
        record {
          by = one header total callee_of (ops.Action number (count_arguments es + length ks)) tt
              (ap (λ (us : List Ty). rule header (ops.Action number (count_arguments es + length ks)) (over g (p + actions_in es) us)) before
              ∙ engine_turns g p (actions_in es) number (count_arguments es + length ks) c.routine (argument_cells es ++ map const_type ks) ts c.is c.callable count taken.actions taken.types
              ∙ ap (λ (us : List Ty). Some (over g p (us ++ ts))) (sym given));
        }

    call_unit : (f : ℕ) → CallsFunction functions t f es ks → g.under ≡ map Of globals
        → Code P g (p + actions_in es) p n 0 place (argument_cells es ++ (map const_type ks ++ (value t ++ ts))) (value t ++ ts) (JumpTo Jsr f ∷ [])
    call_unit f c under =
        let fn : Function = c.function in
        let args : List Ty = parameter_cells l.structs fn.parameters in
        let room : value t ≡ value fn.result = ap value (sym c.result) in
        let none : p + actions_in es ≡ p = omega (arith, no_actions es c.values) in
        let before : argument_cells es ++ (map const_type ks ++ (value t ++ ts)) ≡ args ++ (value fn.result ++ ts) =
        sym (append_assoc (argument_cells es) (map const_type ks) (value t ++ ts))
        ∙ ap (λ (us : List Ty). us ++ (value t ++ ts)) (arguments_are es ks fn.parameters c.arguments c.values)
        ∙ ap (λ (us : List Ty). args ++ (us ++ ts)) room in
        record {
          by = calling header total callee_of f (record {
            callee = callee_for l.structs globals fn;
            known = callees f fn c.is;
            rest = map Of ts ++ g.mid;
            cells = ap (λ (us : List Ty). map Of us ++ g.mid) before
                ∙ sym (append_assoc (map Of args) (map Of (value fn.result)) (map Of ts ++ g.mid)
                ∙ ap (λ (cells : List Slot). map Of args ++ cells) (on_top (value fn.result) ts g.mid)
                ∙ on_top args (value fn.result ++ ts) g.mid);
            deeper = [];
            under = under ∙ sym (append-nil (map Of globals));
            given = map Of (value fn.result);
            gives = refl;
            left = ap (λ (us : List Ty). over g p (us ++ ts)) room
                ∙ ap (λ (cells : List Slot). record (over g p ts) { cells = cells }) (sym (on_top (value fn.result) ts g.mid))
                ∙ ap (λ (q : ℕ). record { cells = map Of (value fn.result) ++ (map Of ts ++ g.mid); under = g.under; saved = g.saved; pending = q }) (sym none);
          });
        }

  -- ---- expressions, by their parts

  abbrev pub Emits : TypedExpr → Type 1
  Emits e = (P : (ℕ → Spot) → Type 0) (g : Ground) (p n place depth : ℕ) (scope : List ℕ) (ts : List Ty) → Reaches g → InSight scope ts → MayCall e
      → IsFine header functions x scope e → IsExpr bodies l e → n + labels e ≤ total → depth ≡ length ts
      → Code P g p p n (labels e) place ts (value (type_of e) ++ ts) (emit l n depth e)

  abbrev pub EmitsAll : TypedExprs → Type 1
  EmitsAll es = (P : (ℕ → Spot) → Type 0) (g : Ground) (p n place depth : ℕ) (scope : List ℕ) (ts : List Ty) → Reaches g → InSight scope ts → MayCallAll es
      → AreFine header functions x scope es → AreExprs bodies l es → n + all_labels es ≤ total → depth ≡ length ts
      → Code P g p (p + actions_in es) n (all_labels es) place ts (argument_cells es ++ ts) (emit_all l n depth es)

  deeper : (depth : ℕ) (us ts : List Ty) (n : ℕ) → n ≡ length us → depth ≡ length ts → depth + n ≡ length (us ++ ts)
  deeper depth us ts n e d = omega (arith, e, d, length-append us ts)

  const_flows : {P : (ℕ → Spot) → Type 0} (g : Ground) (p n place : ℕ) (k : Const) (ts : List Ty) → Code P g p p n 0 place ts (const_type k ∷ ts) (constant k ∷ [])
  const_flows g p n place k ts = turn (ops.Const (literal_of k)) tt (const_turns header g p k ts)

  literal_emits : (k : Const) → Emits (literal k)
  literal_emits k P g p n place depth scope ts reach sight calls fine is few d =
      retyped (const_flows g p n place k ts) (ap (λ (us : List Ty). us ++ ts) (sym (constant_single l.structs k)))

  name_emits : (t : Ty) (q : NamePlace) → Emits (name t q)
  name_emits t (Local m) P g p n place depth scope ts reach sight calls fine is few d =
      let s = home_sees g scope ts (name t (Local m)) reach sight fine in
      turn (read l depth (cells l.structs t) (InFrame (position l m))) tt
      (read_turns header g p l depth (cells l.structs t) (InFrame (position l m)) (value t) ts d (value_length l.structs t) s.1 s.0)
  name_emits t (Global m) P g p n place depth scope ts reach sight calls fine is few d =
      let s = home_sees g scope ts (name t (Global m)) reach sight fine in
      turn (read l depth (cells l.structs t) (InGlobals (position l m))) tt
      (read_turns header g p l depth (cells l.structs t) (InGlobals (position l m)) (value t) ts d (value_length l.structs t) s.1 s.0)
  name_emits t (IsConst k) P g p n place depth scope ts reach sight calls fine is few d =
      retyped (const_flows g p n place k ts) (ap (λ (us : List Ty). us ++ ts) (sym (constant_single l.structs k) ∙ ap value fine))

  member_emits : (t : Ty) (e : TypedExpr) (before : ℕ) → Emits e → Emits (member t e before)
  member_emits t e before each P g p n place depth scope ts reach sight calls fine is few d = on (home l e) refl
    where
      on : (h : Option Home) → home l e ≡ h
          → Code P g p p n (labels e) place ts (value t ++ ts) (member_code l depth (cells l.structs (type_of e)) before (cells l.structs t) h (emit l n depth e))
      on None same =
          seq_line (each P g p n place depth scope ts reach sight calls fine.0 is.3 few d)
          (turn (ops.Destruct (bytes_of (cells l.structs (type_of e))) (bytes_of before) (bytes_of (cells l.structs t))) tt
          (cut_turns header g p (cell_types l.structs (type_of e)) before (cell_types l.structs t) ts fine.1.are fine.1.inside))
      on (Some h) same =
          let s = moved_sees g ts (cell_types l.structs (type_of e)) before (cell_types l.structs t) (Some h)
          (subst (HomeSees g ts (value (type_of e))) same (home_sees g scope ts e reach sight fine.0)) fine.1 in
          recounted (turn (read l depth (cells l.structs t) (moved before h)) (read_goes (moved before h) depth (cells l.structs t))
          (read_turns header g p l depth (cells l.structs t) (moved before h) (value t) ts d (value_length l.structs t) s.1 s.0)) (sym (home_labels e h same))

  -- an int on top, where the value is one
  pub as_int : {P : (ℕ → Spot) → Type 0} {g : Ground} {p q n count place : ℕ} (t : Ty) {ts us : List Ty} {lines : List Line} → t ≡ Int
      → Code P g p q n count place ts (value t ++ us) lines → Code P g p q n count place ts (Int ∷ us) lines
  as_int t {us = us} is f = retyped f (ap (λ (vs : List Ty). vs ++ us) (int_value t is))

  of_int : {P : (ℕ → Spot) → Type 0} {g : Ground} {p q n count place : ℕ} (t : Ty) {ts us : List Ty} {lines : List Line} → t ≡ Int
      → Code P g p q n count place ts (Int ∷ us) lines → Code P g p q n count place ts (value t ++ us) lines
  of_int t {us = us} is f = retyped f (ap (λ (vs : List Ty). vs ++ us) (sym (int_value t is)))

  prefix_flows : {P : (ℕ → Spot) → Type 0} (g : Ground) (p n count place depth : ℕ) (ts : List Ty) (o : PrefixOperator) (h : Option Home) (lines : List Line)
      → depth ≡ length ts → HomeSees g ts (Int ∷ []) h → ((place : ℕ) → Code P g p p n count place ts (Int ∷ ts) lines)
      → Code P g p p n count place ts (Int ∷ ts) (prefix_code l depth o h lines)
  prefix_flows g p n count place depth ts pre.Minus h lines d s f = seq_line (f place) (turn (ops.Neg 0x03) tt (negate_turns header g p ts))
  prefix_flows g p n count place depth ts pre.Complement h lines d s f = seq_line (f place) (turn ops.Comp tt (complement_turns header g p ts))
  prefix_flows g p n count place depth ts pre.Not h lines d s f = seq_line (f place) (turn ops.Not tt (not_turns header g p ts))
  prefix_flows g p n count place depth ts pre.Increment h lines d s f = line_seq (increment_flows g p n place depth ts h d s) (f _)
  prefix_flows g p n count place depth ts pre.Decrement h lines d s f = line_seq (decrement_flows g p n place depth ts h d s) (f _)

  prefix_emits : (t : Ty) (o : PrefixOperator) (e : TypedExpr) → Emits e → Emits (prefix t o e)
  prefix_emits t o e each P g p n place depth scope ts reach sight calls fine is few d =
      of_int t fine.2
      (prefix_flows g p n (labels e) place depth ts o (home l e) (emit l n depth e) d
      (subst (λ (us : List Ty). HomeSees g ts us (home l e)) (int_value (type_of e) fine.1) (home_sees g scope ts e reach sight fine.0))
      (λ q. as_int (type_of e) fine.1 (each P g p n q depth scope ts reach sight calls fine.0 is.1 few d)))

  home_over : (g : Ground) (us ts vs : List Ty) (h : Option Home) → HomeSees g ts us h → HomeSees g (vs ++ ts) us h
  home_over g us ts vs None s = tt
  home_over g us ts vs (Some (InFrame place)) s = (seen_over vs ts place us s.0, s.1)
  home_over g us ts vs (Some (InGlobals place)) s = s

  postfix_flows : {P : (ℕ → Spot) → Type 0} (g : Ground) (p n count place depth : ℕ) (ts : List Ty) (o : PostfixOperator) (h : Option Home) (lines : List Line)
      → depth ≡ length ts → HomeSees g ts (Int ∷ []) h → Code P g p p n count place ts (Int ∷ ts) lines
      → Code P g p p n count place ts (Int ∷ ts) (postfix_code l depth o h lines)
  postfix_flows g p n count place depth ts post.Increment h lines d s f =
      seq_line f (increment_flows g p n _ (depth + 1) (Int ∷ ts) h (omega (arith, d)) (home_over g (Int ∷ []) ts (Int ∷ []) h s))
  postfix_flows g p n count place depth ts post.Decrement h lines d s f =
      seq_line f (decrement_flows g p n _ (depth + 1) (Int ∷ ts) h (omega (arith, d)) (home_over g (Int ∷ []) ts (Int ∷ []) h s))

  postfix_emits : (t : Ty) (o : PostfixOperator) (e : TypedExpr) → Emits e → Emits (postfix t o e)
  postfix_emits t o e each P g p n place depth scope ts reach sight calls fine is few d =
      of_int t fine.2
      (postfix_flows g p n (labels e) place depth ts o (home l e) (emit l n depth e) d
      (subst (λ (us : List Ty). HomeSees g ts us (home l e)) (int_value (type_of e) fine.1) (home_sees g scope ts e reach sight fine.0))
      (as_int (type_of e) fine.1 (each P g p n place depth scope ts reach sight calls fine.0 is.1 few d)))

  -- ---- two operands

  -- a part that flows wherever it stands, whatever the labels around it are
  abbrev Part : ℕ → Ground → ℕ → List Ty → List Ty → (ℕ → List Line) → Type 1
  Part count g p ts us lines = (P : (ℕ → Spot) → Type 0) (n place : ℕ) → n + count ≤ total → Code P g p p n count place ts us (lines n)

  simple_flows : {P : (ℕ → Spot) → Type 0} (g : Ground) (p n a b place : ℕ) (ts us vs ws : List Ty) (op : PlainOp) (left right : ℕ → List Line) → n + 0 + a + b ≤ total
      → Part a g p ts us left → Part b g p us vs right → GoesStraight op → Turns header g p op vs ws
      → Code P g p p n (0 + a + b) place ts ws (left (n + 0) ++ (right (n + 0 + a) ++ Instruction op ∷ []))
  simple_flows {P = P} g p n a b place ts us vs ws op left right few f h on rules =
      let same : n + 0 ≡ n = omega arith in
      let first : Code P g p p n a place ts us (left (n + 0)) = subst (λ m. Code P g p p m a place ts us (left (n + 0))) same (f P (n + 0) place (omega arith)) in
      seq first (seq_line (h P (n + 0 + a) _ (omega arith)) (turn op on rules)) (omega arith) (omega arith)

  -- the int on top is copied and tested
  again_test : {P : (ℕ → Spot) → Type 0} (g : Ground) (p n place label : ℕ) (ts : List Ty) → ((spot_of : ℕ → Spot) → P spot_of → spot_of label ≡ spot_over g p (Int ∷ ts)) → label < total
      → Code P g p p n 0 place (Int ∷ ts) (Int ∷ ts) (top_again ∷ JumpTo Jz label ∷ [])
  again_test g p n place label ts is lt =
      line_seq (turn (ops.CpTopSp (beneath 1) (bytes_of 1)) tt (again_turns header g p Int ts)) (tested_by Jz label tt is lt)

  and_flows : {P : (ℕ → Spot) → Type 0} (g : Ground) (p n a b place : ℕ) (ts : List Ty) (left right : ℕ → List Line) → n + 1 + a + b ≤ total
      → Part a g p ts (Int ∷ ts) left → Part b g p (Int ∷ ts) (Int ∷ Int ∷ ts) right → Turns header g p ops.LogAnd (Int ∷ Int ∷ ts) (Int ∷ ts)
      → Code P g p p n (1 + a + b) place ts (Int ∷ ts) (left (n + 1) ++ (top_again ∷ JumpTo Jz n ∷ (right (n + 1 + a) ++ Instruction ops.LogAnd ∷ Label n ∷ [])))
  and_flows {P = P} g p n a b place ts left right few f h rules =
      let own : Spot = spot_over g p (Int ∷ ts) in
      let Q : (ℕ → Spot) → Type 0 = λ spot_of. P spot_of × (spot_of n ≡ own) in
      one_label own
      (seq (f Q (n + 1) place (omega arith))
      (line_seq (again_test g p (n + 1 + a) _ n ts (λ spot_of holds. holds.1) (omega arith))
      (seq_line (h Q (n + 1 + a) _ (omega arith))
      (line_seq (turn ops.LogAnd tt rules) (marked n (λ spot_of holds. holds.1))))) (omega arith) refl) refl (omega arith)

  or_flows : {P : (ℕ → Spot) → Type 0} (g : Ground) (p n a b place : ℕ) (ts : List Ty) (left right : ℕ → List Line) → n + 2 + a + b ≤ total
      → Part a g p ts (Int ∷ ts) left → Part b g p (Int ∷ ts) (Int ∷ Int ∷ ts) right → Turns header g p ops.LogOr (Int ∷ Int ∷ ts) (Int ∷ ts)
      → Code P g p p n (2 + a + b) place ts (Int ∷ ts)
      (left (n + 2) ++ (top_again ∷ JumpTo Jz n ∷ int_constant (pos 1) ∷ Instruction ops.LogOr ∷ JumpTo Jmp (n + 1) ∷ Label n ∷ (right (n + 2 + a) ++ Instruction ops.LogOr ∷ Label (n + 1) ∷ [])))
  or_flows {P = P} g p n a b place ts left right few f h rules =
      let own : Spot = spot_over g p (Int ∷ ts) in
      let Q : (ℕ → Spot) → Type 0 = λ spot_of. P spot_of × (spot_of n ≡ own) × (spot_of (n + 1) ≡ own) in
      two_labels own own
      (seq (f Q (n + 2) place (omega arith))
      (line_seq (again_test g p (n + 2 + a) _ n ts (λ spot_of holds. holds.1) (omega arith))
      (line_seq (turn {before = Int ∷ ts} {after = Int ∷ Int ∷ ts} (ops.Const (ops.Int (pos 1))) tt (int_turns header g p (pos 1) (Int ∷ ts)))
      (line_seq (turn {before = Int ∷ Int ∷ ts} {after = Int ∷ ts} ops.LogOr tt rules)
      (line_seq (jumped (n + 1) (λ spot_of holds. holds.2) (omega arith))
      (line_seq (marked n (λ spot_of holds. holds.1))
      (seq_line (h Q (n + 2 + a) _ (omega arith))
      (line_seq (turn {before = Int ∷ Int ∷ ts} {after = Int ∷ ts} ops.LogOr tt rules) (marked (n + 1) (λ spot_of holds. holds.2))))))))) (omega arith) refl) refl (omega arith)

  operation_goes : (o : BinaryOperator) (t : Ty) (count : ℕ) → GoesStraight (operation o t count)
  operation_goes bin.Or t count = tt
  operation_goes o t count = tt

  -- where the left operand decides alone, all are ints
  ints_of : (o : BinaryOperator) (s t u : Ty) → binary_type o s t ≡ Some u → 0 < shortcut_labels (shortcut o) → (s ≡ Int) × (t ≡ Int) × (u ≡ Int)
  ints_of bin.Or s t u e some = of_int_types (λ s t u. (s ≡ Int) × (t ≡ Int) × (u ≡ Int)) (refl, refl, refl) s t u e
  ints_of bin.And s t u e some = of_int_types (λ s t u. (s ≡ Int) × (t ≡ Int) × (u ≡ Int)) (refl, refl, refl) s t u e
  ints_of o s t u e some = absurd (omega arith)

  two_ints : {P : (ℕ → Spot) → Type 0} {g : Ground} {p n count place : ℕ} (s t : Ty) {ts : List Ty} {lines : List Line} → s ≡ Int → t ≡ Int
      → Code P g p p n count place (value s ++ ts) (value t ++ (value s ++ ts)) lines → Code P g p p n count place (Int ∷ ts) (Int ∷ Int ∷ ts) lines
  two_ints {P = P} {g = g} {p = p} {n = n} {count = count} {place = place} s t {ts = ts} {lines = lines} x y f =
      subst (λ (us : List Ty). Code P g p p n count place (us ++ ts) (Int ∷ (us ++ ts)) lines) (int_value s x) (as_int t y f)

  binary_flows : {P : (ℕ → Spot) → Type 0} (g : Ground) (p n a b place : ℕ) (s t u : Ty) (ts : List Ty) (o : BinaryOperator) (left right : ℕ → List Line)
      → binary_type o s t ≡ Some u → n + shortcut_labels (shortcut o) + a + b ≤ total
      → Part a g p ts (value s ++ ts) left → Part b g p (value s ++ ts) (value t ++ (value s ++ ts)) right
      → Code P g p p n (shortcut_labels (shortcut o) + a + b) place ts (value u ++ ts)
      (binary_code n (shortcut o) (operation o s (cells l.structs s)) (left (n + shortcut_labels (shortcut o))) (right (n + shortcut_labels (shortcut o) + a)))
  binary_flows g p n a b place s t u ts bin.Or left right e few f h =
      let i = ints_of bin.Or s t u e (omega arith) in
      of_int u i.2
      (or_flows g p n a b place ts left right few (λ P m q less. as_int s i.0 (f P m q less)) (λ P m q less. two_ints s t i.0 i.1 (h P m q less))
      (operation_turns header g p l.structs ts bin.Or Int Int Int refl))
  binary_flows g p n a b place s t u ts bin.And left right e few f h =
      let i = ints_of bin.And s t u e (omega arith) in
      of_int u i.2
      (and_flows g p n a b place ts left right few (λ P m q less. as_int s i.0 (f P m q less)) (λ P m q less. two_ints s t i.0 i.1 (h P m q less))
      (operation_turns header g p l.structs ts bin.And Int Int Int refl))
  binary_flows g p n a b place s t u ts o left right e few f h =
      simple_flows g p n a b place ts (value s ++ ts) (value t ++ (value s ++ ts)) (value u ++ ts) (operation o s (cells l.structs s)) left right few f h
      (operation_goes o s (cells l.structs s)) (operation_turns header g p l.structs ts o s t u e)

  binary_emits : (t : Ty) (o : BinaryOperator) (d e : TypedExpr) → Emits d → Emits e → Emits (binary t o d e)
  binary_emits t o a b first second P g p n place depth scope ts reach sight calls fine is few d =
      binary_flows g p n (labels a) (labels b) place (type_of a) (type_of b) t ts o
      (λ m. emit l m depth a) (λ m. emit l m (depth + cells l.structs (type_of a)) b) fine.2 (omega arith)
      (λ Q m q less. first Q g p m q depth scope ts reach sight (may (λ (c : CallsEngine a × CallsEngine b). c.0) calls) fine.0 is.3 less d)
      (λ Q m q less. second Q g p m q (depth + cells l.structs (type_of a)) scope (value (type_of a) ++ ts) reach (in_sight_over scope (value (type_of a)) ts sight)
      (may (λ (c : CallsEngine a × CallsEngine b). c.1) calls) fine.1 is.4 less (deeper depth (value (type_of a)) ts _ (value_length l.structs (type_of a)) d))

  -- ---- assignments

  assigned_same : (o : AssignOperator) (s v t : Ty) → assigned_type o s v ≡ Some t → s ≡ t
  assigned_same asg.Set s v t e = on (same_type s v) e
    where
      on : (b : Bool) → cond b (Some s) None ≡ Some t → s ≡ t
      on true h = cc
      on false h = absurd cc
  assigned_same asg.Add s v t e = of_sum_types (λ s v t. s ≡ t) refl refl s v t e
  assigned_same o s v t e = of_int_types (λ s v t. s ≡ t) refl s v t e

  set_same : (s v t : Ty) → assigned_type asg.Set s v ≡ Some t → v ≡ t
  set_same s v t e = on (same_type s v) refl e
    where
      on : (b : Bool) → same_type s v ≡ b → cond b (Some s) None ≡ Some t → v ≡ t
      on true h e = let same : s ≡ t = cc in sym (same_is s v h) ∙ same
      on false h e = absurd cc

  abbrev Combines : ((ℕ → Spot) → Type 0) → Ground → ℕ → ℕ → ℕ → List Ty → AssignOperator → Ty → Ty → Ty → Type 0
  Combines P g p n place ts o s v t = Code P g p p n 0 place (value v ++ (value s ++ ts)) (value t ++ ts) (combination o t)

  combination_flows : {P : (ℕ → Spot) → Type 0} (g : Ground) (p n place : ℕ) (ts : List Ty) (o : AssignOperator) (s v t : Ty) → is_set o ≡ false → assigned_type o s v ≡ Some t
      → Combines P g p n place ts o s v t
  combination_flows g p n place ts asg.Set s v t unset e = absurd cc
  combination_flows {P = P} g p n place ts asg.Add s v t unset e =
      of_sum_types (λ s v t. Combines P g p n place ts asg.Add s v t)
      (turn (ops.Add 0x20) tt (operation_turns header g p l.structs ts bin.Add Int Int Int refl))
      (turn (ops.Add 0x23) tt (operation_turns header g p l.structs ts bin.Add Text Text Text refl)) s v t e
  combination_flows {P = P} g p n place ts asg.Subtract s v t unset e =
      of_int_types (λ s v t. Combines P g p n place ts asg.Subtract s v t) (turn (ops.Sub 0x20) tt (operation_turns header g p l.structs ts bin.Subtract Int Int Int refl)) s v t e
  combination_flows {P = P} g p n place ts asg.Multiply s v t unset e =
      of_int_types (λ s v t. Combines P g p n place ts asg.Multiply s v t) (turn (ops.Mul 0x20) tt (operation_turns header g p l.structs ts bin.Multiply Int Int Int refl)) s v t e
  combination_flows {P = P} g p n place ts asg.Divide s v t unset e =
      of_int_types (λ s v t. Combines P g p n place ts asg.Divide s v t) (turn (ops.Div 0x20) tt (operation_turns header g p l.structs ts bin.Divide Int Int Int refl)) s v t e
  combination_flows {P = P} g p n place ts asg.Remainder s v t unset e =
      of_int_types (λ s v t. Combines P g p n place ts asg.Remainder s v t) (turn ops.Mod tt (operation_turns header g p l.structs ts bin.Remainder Int Int Int refl)) s v t e
  combination_flows {P = P} g p n place ts asg.BitAnd s v t unset e =
      of_int_types (λ s v t. Combines P g p n place ts asg.BitAnd s v t) (turn ops.BoolAnd tt (operation_turns header g p l.structs ts bin.BitAnd Int Int Int refl)) s v t e
  combination_flows {P = P} g p n place ts asg.BitOr s v t unset e =
      of_int_types (λ s v t. Combines P g p n place ts asg.BitOr s v t) (turn ops.IncOr tt (operation_turns header g p l.structs ts bin.BitOr Int Int Int refl)) s v t e
  combination_flows {P = P} g p n place ts asg.BitXor s v t unset e =
      of_int_types (λ s v t. Combines P g p n place ts asg.BitXor s v t) (turn ops.ExcOr tt (operation_turns header g p l.structs ts bin.BitXor Int Int Int refl)) s v t e
  combination_flows {P = P} g p n place ts asg.ShiftLeft s v t unset e =
      of_int_types (λ s v t. Combines P g p n place ts asg.ShiftLeft s v t) (turn ops.ShLeft tt (operation_turns header g p l.structs ts bin.ShiftLeft Int Int Int refl)) s v t e
  combination_flows {P = P} g p n place ts asg.ShiftRight s v t unset e =
      of_int_types (λ s v t. Combines P g p n place ts asg.ShiftRight s v t) (turn ops.ShRight tt (operation_turns header g p l.structs ts bin.ShiftRight Int Int Int refl)) s v t e
  combination_flows {P = P} g p n place ts asg.UnsignedShiftRight s v t unset e =
      of_int_types (λ s v t. Combines P g p n place ts asg.UnsignedShiftRight s v t) (turn ops.UshRight tt (operation_turns header g p l.structs ts bin.UnsignedShiftRight Int Int Int refl)) s v t e

  write_flows : {P : (ℕ → Spot) → Type 0} (g : Ground) (p n place depth : ℕ) (t : Ty) (ts : List Ty) (h : Home) → depth ≡ length ts → HomeSees g ts (value t) (Some h)
      → Code P g p p n 0 place (value t ++ ts) (value t ++ ts) (at_home (write l (depth + cells l.structs t) (cells l.structs t)) (Some h))
  write_flows g p n place depth t ts h d s =
      let up = home_over g (value t) ts (value t) (Some h) s in
      turn (write l (depth + cells l.structs t) (cells l.structs t) h) (write_goes h (depth + cells l.structs t) (cells l.structs t))
      (write_turns header g p l (depth + cells l.structs t) (cells l.structs t) h (value t) ts (deeper depth (value t) ts _ (value_length l.structs t) d) (value_length l.structs t) up.1 up.0)

  -- with the value that the operator gives
  changed_flows : {P : (ℕ → Spot) → Type 0} (g : Ground) (p n count place depth : ℕ) (s v t : Ty) (ts : List Ty) (o : AssignOperator) (h : Home) (lines : ℕ → List Line)
      → assigned_type o s v ≡ Some t → is_set o ≡ false → depth ≡ length ts → HomeSees g ts (value t) (Some h)
      → ((place : ℕ) → Code P g p p n count place (value t ++ ts) (value v ++ (value t ++ ts)) (lines (depth + cells l.structs t)))
      → Code P g p p n count place ts (value t ++ ts)
      (at_home (read l depth (cells l.structs t)) (Some h) ++ (lines (depth + cells l.structs t) ++ (combination o t ++ at_home (write l (depth + cells l.structs t) (cells l.structs t)) (Some h))))
  changed_flows {P = P} g p n count place depth s v t ts o h lines e unset d sees f =
      let same : s ≡ t = assigned_same o s v t e in
      line_seq
      (turn (read l depth (cells l.structs t) h) (read_goes h depth (cells l.structs t))
      (read_turns header g p l depth (cells l.structs t) h (value t) ts d (value_length l.structs t) sees.1 sees.0))
      (seq_line (f _)
      (line_seq (combination_flows g p n _ ts o t v t unset (subst (λ u. assigned_type o u v ≡ Some t) same e)) (write_flows g p n _ depth t ts h d sees)))

  assign_flows : {P : (ℕ → Spot) → Type 0} (g : Ground) (p n count place depth : ℕ) (s v t : Ty) (ts : List Ty) (o : AssignOperator) (h : Home) (lines : ℕ → List Line)
      → assigned_type o s v ≡ Some t → depth ≡ length ts → HomeSees g ts (value t) (Some h)
      → ((place d : ℕ) (us : List Ty) → d ≡ length (us ++ ts) → Code P g p p n count place (us ++ ts) (value v ++ (us ++ ts)) (lines d))
      → Code P g p p n count place ts (value t ++ ts)
      (read_first (is_set o) (at_home (read l depth (cells l.structs t)) (Some h))
      ++ (lines (depth + cells_first (is_set o) (cells l.structs t)) ++ (combination o t ++ at_home (write l (depth + cells l.structs t) (cells l.structs t)) (Some h))))
  assign_flows {P = P} g p n count place depth s v t ts asg.Set h lines e d sees f =
      let same : v ≡ t = set_same s v t e in
      seq_line (retyped (f place (depth + 0) [] (omega (arith, d))) (ap (λ (u : Ty). value u ++ ts) same)) (write_flows g p n _ depth t ts h d sees)
  assign_flows {P = P} g p n count place depth s v t ts o h lines e d sees f =
      changed_flows g p n count place depth s v t ts o h lines e refl d sees (λ q. f q (depth + cells l.structs t) (value t) (deeper depth (value t) ts _ (value_length l.structs t) d))

  assign_emits : (t : Ty) (o : AssignOperator) (d e : TypedExpr) → Emits e → Emits (assign t o d e)
  assign_emits t o a b each P g p n place depth scope ts reach sight calls fine is few d =
      let h = place_home a fine.2 in
      let same : type_of a ≡ t = assigned_same o (type_of a) (type_of b) t fine.3 in
      let sees : HomeSees g ts (value t) (Some h.0) =
      subst (λ (u : Ty). HomeSees g ts (value u) (Some h.0)) same (subst (HomeSees g ts (value (type_of a))) h.1 (home_sees g scope ts a reach sight fine.0)) in
      subst (λ (q : Option Home). Code P g p p n (labels b) place ts (value t ++ ts)
      (read_first (is_set o) (at_home (read l depth (cells l.structs t)) q)
      ++ (emit l n (depth + cells_first (is_set o) (cells l.structs t)) b ++ (combination o t ++ at_home (write l (depth + cells l.structs t) (cells l.structs t)) q)))) (sym h.1)
      (assign_flows g p n (labels b) place depth (type_of a) (type_of b) t ts o h.0 (λ m. emit l n m b) fine.3 d sees
      (λ q m us up. each P g p n q m scope (us ++ ts) reach (in_sight_over scope us ts sight) (may (λ (c : CallsEngine a × CallsEngine b). c.1) calls) fine.1 is.2 few up))

  -- ---- calls

  capture_flows : {P : (ℕ → Spot) → Type 0} (g : Ground) (p n place depth : ℕ) (scope : List ℕ) (ts : List Ty) (e : TypedExpr) → Emits e → is_captured e ≡ true
      → Reaches g → InSight scope ts → x.layout.globals ≡ x.bp → IsFine header functions x scope e → IsExpr bodies l e → n + (1 + labels e) ≤ total → depth ≡ length ts
      → Code P g p (p + 1) n (1 + labels e) place ts ts (argument_code l n depth true (emit l (n + 1) depth e))
  capture_flows {P = P} g p n place depth scope ts e each c reach sight made fine is few d =
      let own : Spot = spot_over g (p + 1) ts in
      let Q : (ℕ → Spot) → Type 0 = λ spot_of. P spot_of × (spot_of n ≡ own) in
      let inner : Ground = record { way = Resumes place; mid = Base ∷ map Of globals; under = map Of globals; saved = [] } in
      let found : stored_types (bytes_of l.globals) (bytes_of depth) g.under (map Of ts ++ g.mid) ≡ Some (record { globals = globals; locals = ts }) =
      ap (λ (u : List Slot). stored_types (bytes_of l.globals) (bytes_of depth) u (map Of ts ++ g.mid)) (reach made)
      ∙ ap (λ (m : ℕ). stored_types (bytes_of m) (bytes_of depth) (map Of globals) (map Of ts ++ g.mid)) (sym (globals_many made))
      ∙ ap (λ (m : ℕ). stored_types (bytes_of (length globals)) (bytes_of m) (map Of globals) (map Of ts ++ g.mid)) d
      ∙ ap (λ (us : List Ty). stored_types (bytes_of (length globals)) (bytes_of (length ts)) (map Of globals) (map Of us ++ g.mid)) (sym (append-nil ts))
      ∙ stored_there globals ts [] g.mid in
      record {
        by = with_label header total callee_of own
            (line_and header total callee_of
            (store header total callee_of (bytes_of l.globals) (bytes_of depth) n
            (record { globals = globals; locals = ts }) found (λ spot_of holds. holds.1) (omega arith))
            (and_line header total callee_of (each Q inner 0 (n + 1) _ depth scope ts (λ made. refl) sight (inl made) fine is (omega arith) d).by
            (and_line header total callee_of (back header total callee_of {next = Some own} tt) (mark header total callee_of n (λ spot_of holds. holds.1))))) refl refl;
      }

  argument_flows : {P : (ℕ → Spot) → Type 0} (g : Ground) (p n place depth : ℕ) (scope : List ℕ) (ts : List Ty) (e : TypedExpr) (b : Bool) → Emits e → is_captured e ≡ b
      → Reaches g → InSight scope ts → (is_captured e ≡ false → MayCall e) → IsFine header functions x scope e
      → IsArgument x e → IsExpr bodies l e → n + argument_labels b + labels e ≤ total → depth ≡ length ts
      → Code P g p (p + one_if b) n (argument_labels b + labels e) place ts (value (type_of e) ++ ts) (argument_code l n depth b (emit l (n + argument_labels b) depth e))
  argument_flows {P = P} g p n place depth scope ts e true each c reach sight calls fine arg is few d =
      retyped (capture_flows g p n place depth scope ts e each c reach sight (arg.made c) fine is (omega arith) d) (ap (λ (us : List Ty). us ++ ts) (sym (no_cells e c)))
  argument_flows {P = P} g p n place depth scope ts e false each c reach sight calls fine arg is few d =
      let same : n ≡ n + 0 = omega arith in
      let none : p ≡ p + 0 = omega arith in
      subst (λ q. Code P g p q n (0 + labels e) place ts (value (type_of e) ++ ts) (emit l (n + 0) depth e)) none
      (subst (λ m. Code P g p p n (0 + labels e) place ts (value (type_of e) ++ ts) (emit l m depth e)) same
      (recounted (each P g p n place depth scope ts reach sight (calls c) fine is (omega arith) d) (omega arith)))

  argument_depth : (es : TypedExprs) → arguments_cells l es ≡ length (argument_cells es)
  argument_depth no_typed = refl
  argument_depth (more_typed e es) = omega (arith, argument_depth es, value_length l.structs (type_of e), length-append (value (type_of e)) (argument_cells es))

  more_emits : (e : TypedExpr) (es : TypedExprs) → Emits e → EmitsAll es → EmitsAll (more_typed e es)
  more_emits e es each all P g p n place depth scope ts reach sight calls fine are few d =
      let sum : p + actions_in es + one_if (is_captured e) ≡ p + (actions_in es + one_if (is_captured e)) = omega arith in
      subst (λ q. Code P g p q n (all_labels es + argument_labels (is_captured e) + labels e) place ts (argument_cells (more_typed e es) ++ ts) (emit_all l n depth (more_typed e es))) sum
      (retyped (seq (all P g p n place depth scope ts reach sight (may (λ (c : AllCallEngine (more_typed e es)). c.1) calls) fine.2 are.1 (omega arith) d)
      (argument_flows g (p + actions_in es) (n + all_labels es) _ (depth + arguments_cells l es) scope (argument_cells es ++ ts) e (is_captured e) each refl
      reach (in_sight_over scope (argument_cells es) ts sight) (λ is_value. may (λ (c : AllCallEngine (more_typed e es)). c.0 is_value) calls) fine.0 fine.1 are.0 (omega arith)
      (deeper depth (argument_cells es) ts _ (argument_depth es) d)) refl (omega arith)) (sym (append_assoc (value (type_of e)) (argument_cells es) ts)))

  call_flows : {P : (ℕ → Spot) → Type 0} (g : Ground) (p n place : ℕ) (scope : List ℕ) (t : Ty) (f : Target) (es : TypedExprs) (ks : List Const) (ts : List Ty) → Reaches g
      → MayCall (call t f es ks) → IsFine header functions x scope (call t f es ks)
      → Code P g (p + actions_in es) p n 0 place (argument_cells es ++ (map const_type ks ++ (reverse (result_room l f t) ++ ts))) (value t ++ ts) (called_line f (count_arguments es + length ks) ∷ [])
  call_flows g p n place scope t (InUnit f) es ks ts reach (inl made) fine = call_unit g p n place scope t es ks ts f fine.0 (reach made)
  call_flows g p n place scope t (InUnit f) es ks ts reach (inr none) fine = absurd none
  call_flows g p n place scope t (Engine m) es ks ts reach calls fine = call_engine g p n place scope t es ks ts m fine.0 fine.1

  engine_only : (t : Ty) (f : Target) (es : TypedExprs) (ks : List Const) → CallsEngine (call t f es ks) → AllCallEngine es
  engine_only t (InUnit f) es ks c = absurd c
  engine_only t (Engine m) es ks c = c

  room_kinds : (t : Ty) (f : Target) → IsType l t → AllByRecursion IsCell (result_room l f t)
  room_kinds t (InUnit f) is = is.kinds
  room_kinds t (Engine m) is = tt

  call_emits : (t : Ty) (f : Target) (es : TypedExprs) (ks : List Const) → EmitsAll es → Emits (call t f es ks)
  call_emits t f es ks all P g p n place depth scope ts reach sight calls fine is few d =
      let room : List Ty = result_room l f t in
      let up : List Ty = map const_type ks ++ (reverse room ++ ts) in
      let deep : depth + length room + length ks ≡ length up =
      omega (arith, d, length-append (map const_type ks) (reverse room ++ ts), length-append (reverse room) ts, length-reverse room, length-map ks const_type) in
      line_seq (started_flows g p n room ts place (room_kinds t f is.0))
      (line_seq (constants_flow g p n ks (reverse room ++ ts) _)
      (seq_line
      (all P g p n _ (depth + length room + length ks) scope up reach (in_sight_over scope (map const_type ks) (reverse room ++ ts) (in_sight_over scope (reverse room) ts sight))
      (may (engine_only t f es ks) calls) fine.1 is.3 few deep)
      (call_flows g p n _ scope t f es ks ts reach calls fine)))

  none_emits : EmitsAll no_typed
  none_emits P g p n place depth scope ts reach sight calls fine are few d =
      let none : p ≡ p + 0 = omega arith in
      subst (λ q. Code P g p q n 0 place ts ts []) none same_types

  -- ---- all of them

  mutual
    pub emit_flows : (e : TypedExpr) → Emits e
    emit_flows (literal k) = literal_emits k
    emit_flows (name t q) = name_emits t q
    emit_flows (call t f es ks) = call_emits t f es ks (all_flow es)
    emit_flows (member t e before) = member_emits t e before (emit_flows e)
    emit_flows (prefix t o e) = prefix_emits t o e (emit_flows e)
    emit_flows (postfix t o e) = postfix_emits t o e (emit_flows e)
    emit_flows (binary t o a b) = binary_emits t o a b (emit_flows a) (emit_flows b)
    emit_flows (assign t o a b) = assign_emits t o a b (emit_flows b)

    pub all_flow : (es : TypedExprs) → EmitsAll es
    all_flow no_typed = none_emits
    all_flow (more_typed e es) = more_emits e es (emit_flows e) (all_flow es)
