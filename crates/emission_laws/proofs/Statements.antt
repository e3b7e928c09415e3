-- The code of statements flows: with the types of what they declare on top at their end.
use Rattle.std.proofs.Common.{arith, ◌≡◌, ◌≤◌, ◌<◌, ◌+◌, ◌-◌, ◌*◌, ◌⊎◌, inl, inr, ℕ, zero, suc, pos, List, [], ◌∷◌, ◌++◌, length, map, drop, Option, Some, None, Bool, true, slice_get, sym, ◌∙◌, ap}
use Rattle.std.proofs.Common.{refl, subst, append_assoc, append-nil}
use Rattle.std.proofs.lemmas.List.{length-append}
use Rattle.nss_tree.specs.Statements.{block, empty, expression, if_only, if_else, while_loop, do_loop, for_loop, switch, break_off, continue_on, return_from, declaration, case_label, default_label}
use Rattle.nss_tree.specs.Statements.{no_stmt, more_stmts}
use Rattle.nwq_value.specs.declared.value.Ty.{Ty}
use Rattle.nwq_value.specs.declared.value.Ty.TheVariants.{Int}
use Rattle.nwq_value.specs.declared.engine.Const.{Const}
use Rattle.nwq_value.specs.Engine.{EngineTable, const_type}
use Rattle.ncs_code.specs.Plain as ops
use Rattle.ncs_emit.specs.declared.jump.Jump.TheVariants.{Jmp, Jz, Jnz}
use Rattle.ncs_emit.specs.Labelled.{Line, Instruction, JumpTo}
use Rattle.typing_rules.specs.Typed.{TypedExpr, TypedName, TypedStmt, TypedStmts, type_of}
use Rattle.typing_rules.specs.Cells.{Structs, cell_types, cells}
use Rattle.emission_rules.specs.Layout.{Layout, position, names_cells, declared_cells, all_declared_cells}
use Rattle.emission_rules.specs.Operations.{beneath, bytes_of, dropped, top_again, constant, literal_of}
use Rattle.emission_rules.specs.Expressions.{emit, labels}
use Rattle.emission_rules.specs.Statements.{Exits, in_loop, in_switch, some_labels, evaluated, tested, returned, initial, names_labels, emit_names, count_labels, tests, otherwise, placed, placed_on}
use Rattle.emission_rules.specs.Statements.{stmt_labels, all_stmt_labels, emit_stmt, emit_stmts}
use Rattle.emission_rules.specs.Bounds.{IsExpr, IsSome, AreNames, IsStmt, AreStmts}
use Rattle.stack_shape.specs.declared.shape.Slot.{Slot}
use Rattle.stack_shape.specs.declared.shape.Slot.TheVariants.{Of}
use Rattle.stack_shape.specs.Ranges.{range_at}
use Rattle.stack_shape.specs.TopFirst.{types_on}
use Rattle.stack_shape.specs.StackEffects.{no_effect, where_alike, written, stack_effect}
use Rattle.stack_shape.specs.Rule.{rule}
use Rattle.stack_rules.specs.Tables.{Callee}
use Rattle.source_meaning.specs.Scripts.{Function}
use Rattle.source_laws.specs.Kept.{Site, In}
use Rattle.source_laws.specs.Laws.{CallsEngine}
use Rattle.source_laws.specs.Fine.{IsFine}
use Rattle.source_laws.specs.FineStatements.{DeclaresNothing, IsFineValue, IsFineMaybe, IsFineTest, AreFineNames, IsFineReturn, IsFineStmt, AreFineStmts}
use Rattle.source_meaning.specs.Statements.{after_names, after_stmt}
use Rattle.emission_laws.specs.WellTyped.{LabelsFirst, FitsSwitches, AllFitSwitches, SomeCallsEngine, NamesCallEngine}
use Rattle.emission_laws.specs.Spots.{Runs, Spot}
use Rattle.emission_laws.proofs.Cells.{Ground, spot_over, affects, Seen, seen_over, types_there, drop_there, alike}
use Rattle.source_laws.specs.RangeLemmas.{range_there}
use Rattle.emission_laws.proofs.Ops.{Turns, const_turns, int_turns, drop_turns, again_turns, case_turns}
use Rattle.emission_laws.proofs.Parts.{Labelled, labelled_both}
use Rattle.emission_laws.proofs.Turns.{Turn, turn, retyped, seq, seq_line, line_seq, same_types, marked, jumped, tested_by, returned_back, one_label, two_labels, three_labels}
use Rattle.emission_laws.proofs.Expressions.{value_types, value_length, callee_for, emit_flows, started_flows}

-- ---- types of what is declared

-- the types of declared names, those of the last one on top
abbrev pub named_types : Structs → List TypedName → List Ty
named_types structs [] = []
named_types structs (d ∷ ds) = named_types structs ds ++ value_types structs d.name.ty

pub named_length : (structs : Structs) (ds : List TypedName) → length (named_types structs ds) ≡ names_cells structs ds
named_length structs [] = refl
named_length structs (d ∷ ds) = omega (arith, named_length structs ds, value_length structs d.name.ty, length-append (named_types structs ds) (value_types structs d.name.ty))

abbrev pub declared : Structs → TypedStmt → List Ty
declared structs (declaration m t ds) = named_types structs ds
declared structs _ = []

abbrev pub all_declared : Structs → TypedStmts → List Ty
all_declared structs no_stmt = []
all_declared structs (more_stmts s ss) = all_declared structs ss ++ declared structs s

pub declared_length : (structs : Structs) (s : TypedStmt) → length (declared structs s) ≡ declared_cells structs s
declared_length structs (declaration m t ds) = named_length structs ds
declared_length structs s = refl

pub all_declared_length : (structs : Structs) (ss : TypedStmts) → length (all_declared structs ss) ≡ all_declared_cells structs ss
all_declared_length structs no_stmt = refl
all_declared_length structs (more_stmts s ss) =
    omega (arith, all_declared_length structs ss, declared_length structs s, length-append (all_declared structs ss) (declared structs s))

pub declares_none : (structs : Structs) (s : TypedStmt) → DeclaresNothing s → declared structs s ≡ []
declares_none structs (declaration m t ds) h = absurd h
declares_none structs s h = refl

-- ---- variables in sight

-- the variables in sight stand among the types, each at its position
abbrev pub Sighted : Site → List ℕ → List Ty → Type 0
Sighted x scope ts = (n : ℕ) → In n scope → Seen ts (position x.layout n) (value_types x.layout.structs (x.types n))

pub sight_over : (x : Site) (scope : List ℕ) (vs ts : List Ty) → Sighted x scope ts → Sighted x scope (vs ++ ts)
sight_over x scope vs ts sight n is = seen_over vs ts _ _ (sight n is)

pub sight_more : (x : Site) (scope : List ℕ) (ts : List Ty) (m : ℕ) (t : Ty) → position x.layout m ≡ length ts → x.types m ≡ t → Sighted x scope ts
    → Sighted x (m ∷ scope) (value_types x.layout.structs t ++ ts)
sight_more x scope ts m t place typed sight n (inl is) =
    let here : Seen (value_types x.layout.structs t ++ ts) (position x.layout m) (value_types x.layout.structs t) = record { above = []; below = ts; is = refl; at = sym place } in
    subst (λ (k : ℕ). Seen (value_types x.layout.structs t ++ ts) (position x.layout k) (value_types x.layout.structs (x.types k))) (sym is)
    (subst (λ (u : Ty). Seen (value_types x.layout.structs t ++ ts) (position x.layout m) (value_types x.layout.structs u)) (sym typed) here)
sight_more x scope ts m t place typed sight n (inr is) = sight_over x scope (value_types x.layout.structs t) ts sight n is

pub sight_named : (header : EngineTable) (functions : List Function) (x : Site) (result : Ty) (depth : ℕ) (scope : List ℕ) (ts : List Ty) (ds : List TypedName) → depth ≡ length ts
    → AreFineNames header functions x result depth scope ds → Sighted x scope ts → Sighted x (after_names ds scope) (named_types x.layout.structs ds ++ ts)
sight_named header functions x result depth scope ts [] d fine sight = sight
sight_named header functions x result depth scope ts (a ∷ ds) d fine sight =
    let vs : List Ty = value_types x.layout.structs a.name.ty in
    let up : depth + cells x.layout.structs a.name.ty ≡ length (vs ++ ts) = omega (arith, d, length-append vs ts, value_length x.layout.structs a.name.ty) in
    let rest = sight_named header functions x result (depth + cells x.layout.structs a.name.ty) (a.name.number ∷ scope) (vs ++ ts) ds up fine.3
    (sight_more x scope ts a.name.number a.name.ty (fine.0 ∙ d) fine.1 sight) in
    subst (λ (us : List Ty). Sighted x (after_names ds (a.name.number ∷ scope)) us) (sym (append_assoc (named_types x.layout.structs ds) vs ts)) rest

pub sight_after : (header : EngineTable) (functions : List Function) (x : Site) (result : Ty) (breaks continues : Bool) (depth : ℕ) (scope : List ℕ) (ts : List Ty) (s : TypedStmt) → depth ≡ length ts
    → IsFineStmt header functions x result breaks continues depth scope s → Sighted x scope ts → Sighted x (after_stmt s scope) (declared x.layout.structs s ++ ts)
sight_after header functions x result breaks continues depth scope ts (declaration m t ds) d fine sight = sight_named header functions x result depth scope ts ds d fine sight
sight_after header functions x result breaks continues depth scope ts s d fine sight = sight

-- ---- labels with one spot

abbrev repeated : ℕ → Spot → List Spot
repeated zero s = []
repeated (suc k) s = s ∷ repeated k s

repeated_length : (k : ℕ) (s : Spot) → length (repeated k s) ≡ k
repeated_length zero s = refl
repeated_length (suc k) s = ap suc (repeated_length k s)

repeated_is : (spot_of : ℕ → Spot) (n k : ℕ) (s : Spot) → Labelled spot_of n (repeated k s) → (i : ℕ) → i < k → spot_of (n + i) ≡ s
repeated_is spot_of n zero s h i lt = absurd (omega arith)
repeated_is spot_of n (suc k) s h zero lt = let same : n + 0 ≡ n = omega arith in ap spot_of same ∙ h.0
repeated_is spot_of n (suc k) s h (suc i) lt = let same : n + suc i ≡ n + 1 + i = omega arith in ap spot_of same ∙ repeated_is spot_of (n + 1) k s h.1 i (omega arith)

module _ (header : EngineTable) (functions : List Function) (x : Site) (bodies total : ℕ) (callee_of : ℕ → Option Callee) (globals : List Ty)
    (callees : (f : ℕ) (fn : Function) → slice_get functions f ≡ Some fn → callee_of f ≡ Some (callee_for x.layout.structs globals fn))
    (globals_seen : (n : ℕ) → In n x.globals → Seen globals (position x.layout n) (value_types x.layout.structs (x.types n)))
    (globals_many : x.layout.globals ≡ x.bp → length globals ≡ x.layout.globals) where
  abbrev l : Layout
  l = x.layout

  abbrev value : Ty → List Ty
  value t = value_types x.layout.structs t

  abbrev named : List TypedName → List Ty
  named ds = named_types x.layout.structs ds

  deeper : (depth : ℕ) (us ts : List Ty) (n : ℕ) → n ≡ length us → depth ≡ length ts → depth + n ≡ length (us ++ ts)
  deeper depth us ts n e d = omega (arith, e, d, length-append us ts)

  module _ (g : Ground) (reach : x.layout.globals ≡ x.bp → g.under ≡ map Of globals) where
    abbrev Code : ((ℕ → Spot) → Type 0) → ℕ → ℕ → ℕ → List Ty → List Ty → List Line → Type 0
    Code P n count place ts us lines = Turn header total callee_of P g 0 0 n count place ts us lines

    abbrev May : Type 0 → Type 0
    May A = (x.layout.globals ≡ x.bp) ⊎ A

    value_flows : {P : (ℕ → Spot) → Type 0} (n place depth : ℕ) (scope : List ℕ) (ts : List Ty) (e : TypedExpr) → Sighted x scope ts → May (CallsEngine e)
        → IsFine header functions x scope e → IsExpr bodies l e → n + labels e ≤ total → depth ≡ length ts → Code P n (labels e) place ts (value (type_of e) ++ ts) (emit l n depth e)
    value_flows {P = P} n place depth scope ts e sight calls fine is few d =
        emit_flows header functions x bodies total callee_of globals callees globals_seen globals_many e P g 0 n place depth scope ts reach sight calls fine is few d

    -- ---- declarations

    initial_flows : {P : (ℕ → Spot) → Type 0} (result : Ty) (n place depth : ℕ) (scope : List ℕ) (ts : List Ty) (t : Ty) (v : Option TypedExpr) → Sighted x scope ts → May (SomeCallsEngine v)
        → IsFineValue header functions x result scope t v → IsSome bodies l v → n + some_labels v ≤ total → depth ≡ length ts
        → Code P n (some_labels v) place ts (value t ++ ts) (initial l n depth t v)
    initial_flows result n place depth scope ts t None sight calls fine is few d =
        started_flows header functions x bodies total callee_of globals callees globals_seen globals_many g 0 n (cell_types l.structs t) ts place fine
    initial_flows result n place depth scope ts t (Some e) sight calls fine is few d =
        retyped (value_flows n place depth scope ts e sight calls fine.0 is few d) (ap (λ (u : Ty). value u ++ ts) fine.1)

    may_first : {A B : Type 0} → May (A × B) → May A
    may_first (inl made) = inl made
    may_first (inr c) = inr c.0

    may_rest : {A B : Type 0} → May (A × B) → May B
    may_rest (inl made) = inl made
    may_rest (inr c) = inr c.1

    pub names_flow : {P : (ℕ → Spot) → Type 0} (result : Ty) (ds : List TypedName) (n place depth : ℕ) (scope : List ℕ) (ts : List Ty) → Sighted x scope ts → May (NamesCallEngine ds)
        → AreFineNames header functions x result depth scope ds → AreNames bodies l ds → n + names_labels ds ≤ total → depth ≡ length ts
        → Code P n (names_labels ds) place ts (named ds ++ ts) (emit_names l n depth ds)
    names_flow result [] n place depth scope ts sight calls fine are few d = same_types
    names_flow result (a ∷ ds) n place depth scope ts sight calls fine are few d =
        retyped (seq (initial_flows result n place depth scope ts a.name.ty a.value sight (may_first calls) fine.2 are.1 (omega arith) d)
        (names_flow result ds (n + some_labels a.value) _ (depth + cells l.structs a.name.ty) (a.name.number ∷ scope) (value a.name.ty ++ ts)
        (sight_more x scope ts a.name.number a.name.ty (fine.0 ∙ d) fine.1 sight) (may_rest calls) fine.3 are.2 (omega arith)
        (deeper depth (value a.name.ty) ts _ (value_length l.structs a.name.ty) d)) refl refl)
        (sym (append_assoc (named ds) (value a.name.ty) ts))

    -- ---- what is taken off

    pub dropped_flows : {P : (ℕ → Spot) → Type 0} (k n place : ℕ) (us ts : List Ty) → k ≡ length us → Code P n 0 place (us ++ ts) ts (dropped k)
    dropped_flows zero n place [] ts e = same_types
    dropped_flows zero n place (u ∷ us) ts e = absurd (omega (arith, e))
    dropped_flows {P = P} (suc k) n place us ts e =
        subst (λ m. Code P n 0 place (us ++ ts) ts (Instruction (ops.MovSp (beneath m)) ∷ [])) (sym e) (turn (ops.MovSp (beneath (length us))) tt (drop_turns header g 0 us ts))

    pub dropped_all : {P : (ℕ → Spot) → Type 0} (k n place : ℕ) (ts : List Ty) → k ≡ length ts → Code P n 0 place ts [] (dropped k)
    dropped_all {P = P} k n place ts e = subst (λ (us : List Ty). Code P n 0 place us [] (dropped k)) (append-nil ts) (dropped_flows k n place ts [] e)

  -- ---- in a function

  module _ (made : x.layout.globals ≡ x.bp) (f : ℕ) (fn : Function) (is_function : slice_get functions f ≡ Some fn) where
    abbrev pub ground : Ground
    ground = record { way = Runs f; mid = map Of (value fn.result); under = map Of globals; saved = [] }

    abbrev pub Lines : ((ℕ → Spot) → Type 0) → ℕ → ℕ → ℕ → List Ty → List Ty → List Line → Type 0
    Lines P n count place ts us lines = Turn header total callee_of P ground 0 0 n count place ts us lines

    abbrev pub spot : List Ty → Spot
    spot ts = spot_over ground 0 ts

    abbrev pub Knows : ((ℕ → Spot) → Type 0) → ℕ → List Ty → Type 0
    Knows P label ts = (spot_of : ℕ → Spot) → P spot_of → spot_of label ≡ spot ts

    -- a value
    expr_flows : {P : (ℕ → Spot) → Type 0} (n place depth : ℕ) (scope : List ℕ) (ts : List Ty) (e : TypedExpr) → Sighted x scope ts
        → IsFine header functions x scope e → IsExpr bodies l e → n + labels e ≤ total → depth ≡ length ts → Lines P n (labels e) place ts (value (type_of e) ++ ts) (emit l n depth e)
    expr_flows n place depth scope ts e sight fine is few d = value_flows ground (λ made. refl) n place depth scope ts e sight (inl made) fine is few d

    -- an int
    int_flows : {P : (ℕ → Spot) → Type 0} (n place depth : ℕ) (scope : List ℕ) (ts : List Ty) (e : TypedExpr) → Sighted x scope ts
        → IsFine header functions x scope e → type_of e ≡ Int → IsExpr bodies l e → n + labels e ≤ total → depth ≡ length ts → Lines P n (labels e) place ts (Int ∷ ts) (emit l n depth e)
    int_flows n place depth scope ts e sight fine int is few d =
        retyped (expr_flows n place depth scope ts e sight fine is few d) (ap (λ (t : Ty). value t ++ ts) int)

    evaluated_flows : {P : (ℕ → Spot) → Type 0} (n place depth : ℕ) (scope : List ℕ) (ts : List Ty) (v : Option TypedExpr) → Sighted x scope ts
        → IsFineMaybe header functions x fn.result scope v → IsSome bodies l v → n + some_labels v ≤ total → depth ≡ length ts → Lines P n (some_labels v) place ts ts (evaluated l n depth v)
    evaluated_flows n place depth scope ts None sight fine is few d = same_types
    evaluated_flows n place depth scope ts (Some e) sight fine is few d =
        seq_line (expr_flows n place depth scope ts e sight fine is few d)
        (dropped_flows ground (λ made. refl) (cells l.structs (type_of e)) n _ (value (type_of e)) ts
        (value_length l.structs (type_of e)))

    tested_flows : {P : (ℕ → Spot) → Type 0} (n place depth : ℕ) (scope : List ℕ) (ts : List Ty) (v : Option TypedExpr) → Sighted x scope ts
        → IsFineTest header functions x fn.result scope v → IsSome bodies l v → n + some_labels v ≤ total → depth ≡ length ts → Lines P n (some_labels v) place ts (Int ∷ ts) (tested l n depth v)
    tested_flows n place depth scope ts None sight fine is few d = turn (ops.Const (ops.Int (pos 1))) tt (int_turns header ground 0 (pos 1) ts)
    tested_flows n place depth scope ts (Some e) sight fine is few d = int_flows n place depth scope ts e sight fine.0 fine.1 is few d

    -- ---- return

    result_written : (depth count : ℕ) (us ts : List Ty) → depth ≡ length ts → count ≡ length us → 0 < length us → us ≡ value fn.result
        → written (range_at (beneath (depth + 2 * count)) (bytes_of count)) (map Of (us ++ ts) ++ ground.mid) (map Of (us ++ ts) ++ ground.mid) ≡ Some no_effect
    result_written depth count us ts d c some same =
        let cells : List Slot = map Of (us ++ ts) ++ ground.mid in
        let up : List Ty = us ++ ts in
        let beyond : drop (depth + count) cells ≡ map Of us ++ [] =
        ap (λ (n : ℕ). drop n cells) (omega (arith, d, c, length-append us ts))
        ∙ ap (λ (l : List Ty). drop (length up) (map Of l ++ ground.mid)) (sym (append-nil up))
        ∙ drop_there up [] ground.mid
        ∙ ap (λ (l : List Ty). map Of l) (sym same) ∙ sym (append-nil (map Of us)) in
        let seen : types_on count (drop (depth + count) cells) ≡ Some us =
        ap (types_on count) beyond ∙ ap (λ (n : ℕ). types_on n (map Of us ++ [])) c
        ∙ ap (λ (l : List Ty). types_on (length us) (map Of l ++ [])) (sym (append-nil us)) ∙ types_there us [] [] in
        let first : types_on count cells ≡ Some us = ap (λ (n : ℕ). types_on n cells) c ∙ types_there us ts ground.mid in
        ap (λ o. written o cells cells) (range_there (depth + 2 * count) (depth + count) count (omega (arith, c)) (omega arith))
        ∙ ap (λ o. where_alike o (types_on count (drop (depth + count) cells)) no_effect) first
        ∙ ap (λ o. where_alike (Some us) o no_effect) seen
        ∙ alike us no_effect

    result_turns : (depth count : ℕ) (us ts : List Ty) → depth ≡ length ts → count ≡ length us → 0 < length us → us ≡ value fn.result
        → Turns header ground 0 (ops.CpDownSp (beneath (depth + 2 * count)) (bytes_of count)) (us ++ ts) (us ++ ts)
    unfolding rule stack_effect
    result_turns depth count us ts d c some same = affects ground 0 [] [] (us ++ ts) _ (result_written depth count us ts d c some same)

    back_flows : {P : (ℕ → Spot) → Type 0} (n place : ℕ) (us : List Ty) → Lines P n 0 place [] us (Instruction ops.Retn ∷ [])
    back_flows n place us = returned_back (record { callee = callee_for l.structs globals fn; known = callees f fn is_function; given = refl; saved = refl; pending = refl })

    return_flows : {P : (ℕ → Spot) → Type 0} (n place depth : ℕ) (scope : List ℕ) (ts us : List Ty) (v : Option TypedExpr) → Sighted x scope ts
        → IsFineReturn header functions x fn.result scope v → IsSome bodies l v → n + some_labels v ≤ total → depth ≡ length ts
        → Lines P n (some_labels v) place ts us (returned l n depth v ++ Instruction ops.Retn ∷ [])
    return_flows n place depth scope ts us None sight fine is few d = line_seq (dropped_all ground (λ made. refl) depth n place ts d) (back_flows n _ us)
    return_flows n place depth scope ts us (Some e) sight fine is few d =
        let count : ℕ = cells l.structs (type_of e) in
        let vs : List Ty = value (type_of e) in
        let many : count ≡ length vs = value_length l.structs (type_of e) in
        let some : 0 < length vs = omega (arith, fine.2, many, ap (cells l.structs) fine.1) in
        seq_line (seq_line (expr_flows n place depth scope ts e sight fine.0 is few d)
        (line_seq (turn {before = vs ++ ts} {after = vs ++ ts} (ops.CpDownSp (beneath (depth + 2 * count)) (bytes_of count)) tt (result_turns depth count vs ts d many some (ap value fine.1)))
        (dropped_all ground (λ made. refl) (depth + count) n _ (vs ++ ts) (deeper depth vs ts count many d))))
        (back_flows n _ us)

    -- ---- where `break` and `continue` lead

    pub record ExitThere (P : (ℕ → Spot) → Type 0) (ts : List Ty) (label depth : ℕ) : Type 0 where
      pub there : List Ty
      pub more : List Ty
      pub is : ts ≡ more ++ there
      pub deep : depth ≡ length there
      pub knows : Knows P label there
      pub inside : label < total

    abbrev Exit : ((ℕ → Spot) → Type 0) → Bool → List Ty → ℕ → ℕ → Type 0
    Exit P allowed ts label depth = allowed ≡ true → ExitThere P ts label depth

    exit_in : (P Q : (ℕ → Spot) → Type 0) (allowed : Bool) (ts us : List Ty) (label depth : ℕ)
        → ((spot_of : ℕ → Spot) → Q spot_of → P spot_of) → Exit P allowed ts label depth
        → Exit Q allowed (us ++ ts) label depth
    exit_in P Q allowed ts us label depth in_it exit h =
        let e = exit h in
        record {
          there = e.there;
          more = us ++ e.more;
          is = ap (λ (l : List Ty). us ++ l) e.is ∙ sym (append_assoc us e.more e.there);
          deep = e.deep;
          knows = λ spot_of holds. e.knows spot_of (in_it spot_of holds);
          inside = e.inside;
        }

    exit_here : (P : (ℕ → Spot) → Type 0) (allowed : Bool) (ts : List Ty) (label depth : ℕ) → depth ≡ length ts → Knows P label ts → label < total → Exit P allowed ts label depth
    exit_here P allowed ts label depth d knows lt h = record { there = ts; more = []; is = refl; deep = d; knows = knows; inside = lt }

    leave_flows : {P : (ℕ → Spot) → Type 0} (n place depth : ℕ) (ts us : List Ty) (label to : ℕ) → depth ≡ length ts → ExitThere P ts label to
        → Lines P n 0 place ts us (dropped (depth - to) ++ JumpTo Jmp label ∷ [])
    leave_flows {P = P} n place depth ts us label to d e =
        let many : depth - to ≡ length e.more = omega (arith, d, e.deep, ap length e.is, length-append e.more e.there) in
        line_seq (subst (λ (l : List Ty). Lines P n 0 place l e.there (dropped (depth - to))) (sym e.is) (dropped_flows ground (λ made. refl) (depth - to) n place e.more e.there many))
        (jumped label e.knows e.inside)

    -- ---- statements

    -- the labels that stand among these statements, from this one on, have the spot in front of
    -- them
    pub record LabelsKnown (P : (ℕ → Spot) → Type 0) (at : ℕ) (xs : TypedStmts) (ts : List Ty) : Type 0 where
      pub known : (k : ℕ) → k < count_labels xs → Knows P (at + k) ts
      pub first : LabelsFirst xs

    abbrev LabelsAt : ((ℕ → Spot) → Type 0) → Option ℕ → TypedStmts → List Ty → Type 0
    LabelsAt P None xs ts = Unit {0}
    LabelsAt P (Some at) xs ts = LabelsKnown P at xs ts

    abbrev pub StmtFlows : TypedStmt → Type 1
    StmtFlows s = (P : (ℕ → Spot) → Type 0) (n place depth : ℕ) (scope : List ℕ) (ts : List Ty) (breaks continues a b : Bool) (out : Exits) → Sighted x scope ts
        → IsFineStmt header functions x fn.result breaks continues depth scope s → FitsSwitches s → IsStmt bodies l a b s → n + stmt_labels s ≤ total → depth ≡ length ts
        → Exit P breaks ts out.break_to out.break_depth → Exit P continues ts out.continue_to out.continue_depth
        → Lines P n (stmt_labels s) place ts (declared l.structs s ++ ts) (emit_stmt l out n depth s)

    abbrev pub StmtsFlow : TypedStmts → Type 1
    StmtsFlow ss = (P : (ℕ → Spot) → Type 0) (n place depth : ℕ) (scope : List ℕ) (ts : List Ty) (breaks continues a b : Bool) (out : Exits) (at : Option ℕ) → Sighted x scope ts
        → AreFineStmts header functions x fn.result breaks continues depth scope ss → AllFitSwitches ss → AreStmts bodies l a b ss → n + all_stmt_labels ss ≤ total → depth ≡ length ts
        → Exit P breaks ts out.break_to out.break_depth → Exit P continues ts out.continue_to out.continue_depth → LabelsAt P at ss ts
        → Lines P n (all_stmt_labels ss) place ts (all_declared l.structs ss ++ ts) (emit_stmts l out n depth at ss)

    -- a statement that declares nothing leaves the types as they are
    bare : {P : (ℕ → Spot) → Type 0} {n count place : ℕ} {ts : List Ty} {lines : List Line} (s : TypedStmt) → DeclaresNothing s
        → Lines P n count place ts (declared l.structs s ++ ts) lines → Lines P n count place ts ts lines
    bare {ts = ts} s none h = retyped h (ap (λ (us : List Ty). us ++ ts) (declares_none l.structs s none))

    block_flows : (m : ℕ) (ss : TypedStmts) → StmtsFlow ss → StmtFlows (block m ss)
    block_flows m ss each P n place depth scope ts breaks continues a b out sight fine fit are few d breaking continuing =
        seq_line (each P n place depth scope ts breaks continues a b out None sight fine fit are few d breaking continuing tt)
        (dropped_flows ground (λ made. refl) (all_declared_cells l.structs ss) n _ (all_declared l.structs ss) ts (sym (all_declared_length l.structs ss)))

    expression_flows : (m : ℕ) (e : TypedExpr) → StmtFlows (expression m e)
    expression_flows m e P n place depth scope ts breaks continues a b out sight fine fit is few d breaking continuing =
        evaluated_flows n place depth scope ts (Some e) sight fine is few d

    if_only_flows : (m : ℕ) (e : TypedExpr) (s : TypedStmt) → StmtFlows s → StmtFlows (if_only m e s)
    if_only_flows m e s each P n place depth scope ts breaks continues a b out sight fine fit is few d breaking continuing =
        let Q : (ℕ → Spot) → Type 0 = λ spot_of. P spot_of × (spot_of n ≡ spot ts) in
        one_label (spot ts)
        (seq (int_flows (n + 1) place depth scope ts e sight fine.0.0 fine.0.1 is.0 (omega arith) d)
        (line_seq (tested_by Jz n tt (λ spot_of holds. holds.1) (omega arith))
        (seq_line (bare s fine.2 (each Q (n + 1 + labels e) _ depth scope ts breaks continues a b out sight fine.1 fit is.1 (omega arith) d
        (exit_in P Q breaks ts [] out.break_to out.break_depth (λ spot_of holds. holds.0) breaking)
        (exit_in P Q continues ts [] out.continue_to out.continue_depth (λ spot_of holds. holds.0) continuing)))
        (marked n (λ spot_of holds. holds.1)))) refl refl) refl (omega arith)

    if_else_flows : (m : ℕ) (e : TypedExpr) (s t : TypedStmt) → StmtFlows s → StmtFlows t → StmtFlows (if_else m e s t)
    if_else_flows m e s t first second P n place depth scope ts breaks continues a b out sight fine fit is few d breaking continuing =
        let Q : (ℕ → Spot) → Type 0 = λ spot_of. P spot_of × (spot_of n ≡ spot ts) × (spot_of (n + 1) ≡ spot ts) in
        let br = exit_in P Q breaks ts [] out.break_to out.break_depth (λ spot_of holds. holds.0) breaking in
        let co = exit_in P Q continues ts [] out.continue_to out.continue_depth (λ spot_of holds. holds.0) continuing in
        two_labels {a = labels e + (stmt_labels s + stmt_labels t)} (spot ts) (spot ts)
        (seq (int_flows (n + 2) place depth scope ts e sight fine.0.0 fine.0.1 is.0 (omega arith) d)
        (line_seq (tested_by Jz n tt (λ spot_of holds. holds.1) (omega arith))
        (seq (bare s fine.3 (first Q (n + 2 + labels e) _ depth scope ts breaks continues a b out sight fine.1 fit.0 is.1 (omega arith) d br co))
        (line_seq (jumped {us = ts} (n + 1) (λ spot_of holds. holds.2) (omega arith))
        (line_seq (marked n (λ spot_of holds. holds.1))
        (seq_line (bare t fine.4 (second Q (n + 2 + labels e + stmt_labels s) _ depth scope ts breaks continues a b out sight fine.2 fit.1 is.2 (omega arith) d br co))
        (marked (n + 1) (λ spot_of holds. holds.2))))) refl refl)) refl (omega arith)) refl (omega arith)

    while_flows : (m : ℕ) (e : TypedExpr) (s : TypedStmt) → StmtFlows s → StmtFlows (while_loop m e s)
    while_flows m e s each P n place depth scope ts breaks continues a b out sight fine fit is few d breaking continuing =
        let Q : (ℕ → Spot) → Type 0 = λ spot_of. P spot_of × (spot_of n ≡ spot ts) × (spot_of (n + 1) ≡ spot ts) in
        two_labels (spot ts) (spot ts)
        (line_seq (marked n (λ spot_of holds. holds.1))
        (seq (int_flows (n + 2) _ depth scope ts e sight fine.0.0 fine.0.1 is.0 (omega arith) d)
        (line_seq (tested_by Jz (n + 1) tt (λ spot_of holds. holds.2) (omega arith))
        (seq_line (bare s fine.2 (each Q (n + 2 + labels e) _ depth scope ts true true true true (in_loop n (n + 1) depth) sight fine.1 fit is.1 (omega arith) d
        (exit_here Q true ts (n + 1) depth d (λ spot_of holds. holds.2) (omega arith)) (exit_here Q true ts n depth d (λ spot_of holds. holds.1) (omega arith))))
        (line_seq (jumped {us = ts} n (λ spot_of holds. holds.1) (omega arith)) (marked (n + 1) (λ spot_of holds. holds.2))))) refl refl)) refl (omega arith)

    do_flows : (m : ℕ) (s : TypedStmt) (e : TypedExpr) → StmtFlows s → StmtFlows (do_loop m s e)
    do_flows m s e each P n place depth scope ts breaks continues a b out sight fine fit is few d breaking continuing =
        let Q : (ℕ → Spot) → Type 0 = λ spot_of. P spot_of × (spot_of n ≡ spot ts) × (spot_of (n + 1) ≡ spot ts) × (spot_of (n + 2) ≡ spot ts) in
        three_labels (spot ts) (spot ts) (spot ts)
        (line_seq (marked n (λ spot_of holds. holds.1))
        (seq (bare s fine.2 (each Q (n + 3) _ depth scope ts true true true true (in_loop (n + 1) (n + 2) depth) sight fine.0 fit is.0 (omega arith) d
        (exit_here Q true ts (n + 2) depth d (λ spot_of holds. holds.3) (omega arith)) (exit_here Q true ts (n + 1) depth d (λ spot_of holds. holds.2) (omega arith))))
        (line_seq (marked (n + 1) (λ spot_of holds. holds.2))
        (seq_line (int_flows (n + 3 + stmt_labels s) _ depth scope ts e sight fine.1.0 fine.1.1 is.1 (omega arith) d)
        (line_seq (tested_by Jnz n tt (λ spot_of holds. holds.1) (omega arith)) (marked (n + 2) (λ spot_of holds. holds.3))))) refl refl)) refl (omega arith)

    for_flows : (m : ℕ) (v y z : Option TypedExpr) (s : TypedStmt) → StmtFlows s → StmtFlows (for_loop m v y z s)
    for_flows m v y z s each P n place depth scope ts breaks continues a b out sight fine fit is few d breaking continuing =
        let Q : (ℕ → Spot) → Type 0 = λ spot_of. P spot_of × (spot_of n ≡ spot ts) × (spot_of (n + 1) ≡ spot ts) × (spot_of (n + 2) ≡ spot ts) in
        three_labels {a = some_labels v + (some_labels y + (stmt_labels s + some_labels z))} (spot ts) (spot ts) (spot ts)
        (seq (evaluated_flows (n + 3) place depth scope ts v sight fine.0 is.0 (omega arith) d)
        (line_seq (marked n (λ spot_of holds. holds.1))
        (seq (tested_flows (n + 3 + some_labels v) _ depth scope ts y sight fine.1 is.1 (omega arith) d)
        (line_seq (tested_by Jz (n + 2) tt (λ spot_of holds. holds.3) (omega arith))
        (seq (bare s fine.4 (each Q (n + 3 + some_labels v + some_labels y) _ depth scope ts true true true true (in_loop (n + 1) (n + 2) depth) sight fine.3 fit is.3 (omega arith) d
        (exit_here Q true ts (n + 2) depth d (λ spot_of holds. holds.3) (omega arith)) (exit_here Q true ts (n + 1) depth d (λ spot_of holds. holds.2) (omega arith))))
        (line_seq (marked (n + 1) (λ spot_of holds. holds.2))
        (seq_line (evaluated_flows (n + 3 + some_labels v + some_labels y + stmt_labels s) _ depth scope ts z sight fine.2 is.2 (omega arith) d)
        (line_seq (jumped {us = ts} n (λ spot_of holds. holds.1) (omega arith)) (marked (n + 2) (λ spot_of holds. holds.3))))) refl refl)) refl refl)) refl (omega arith)) refl (omega arith)

    -- ---- switch

    with_same : {P : (ℕ → Spot) → Type 0} {n k a c place : ℕ} {ts us : List Ty} {lines : List Line} (count : ℕ) (own : Spot)
        → Lines (λ spot_of. P spot_of × ((i : ℕ) → i < count → spot_of (n + i) ≡ own)) k a place ts us lines → k ≡ n + count → c ≡ count + a → Lines P n c place ts us lines
    with_same {n = n} {k = k} count own f is sum =
        let many = repeated_length count own in
        record {
          by = record {
            spots = repeated count own ++ f.by.spots;
            many = omega (arith, length-append (repeated count own) f.by.spots, many, f.by.many);
            flow = λ spot_of labels holds. (
                let parts = labelled_both spot_of n (repeated count own) f.by.spots labels in
                f.by.flow spot_of (subst (λ m. Labelled spot_of m f.by.spots) (omega (arith, many)) parts.1) (holds, λ i lt. repeated_is spot_of n count own parts.0 i lt));
          };
        }

    shifted : (P : (ℕ → Spot) → Type 0) (at count : ℕ) (ts : List Ty) → ((k : ℕ) → k < 1 + count → Knows P (at + k) ts) → (k : ℕ) → k < count → Knows P (at + 1 + k) ts
    shifted P at count ts known k lt spot_of holds =
        let same : at + 1 + k ≡ at + (1 + k) = omega arith in
        ap spot_of same ∙ known (1 + k) (omega arith) spot_of holds

    first_known : (P : (ℕ → Spot) → Type 0) (at count : ℕ) (ts : List Ty) → ((k : ℕ) → k < 1 + count → Knows P (at + k) ts) → Knows P at ts
    first_known P at count ts known spot_of holds = let same : at ≡ at + 0 = omega arith in ap spot_of same ∙ known 0 (omega arith) spot_of holds

    test_flows : {P : (ℕ → Spot) → Type 0} (n place at : ℕ) (k : Const) (ts : List Ty) → const_type k ≡ Int → Knows P at (Int ∷ ts) → at < total
        → Lines P n 0 place (Int ∷ ts) (Int ∷ ts) (top_again ∷ constant k ∷ Instruction (ops.Equal 0x20 0) ∷ JumpTo Jnz at ∷ [])
    test_flows n place at k ts int knows lt =
        line_seq (turn {before = Int ∷ ts} {after = Int ∷ Int ∷ ts} (ops.CpTopSp (beneath 1) (bytes_of 1)) tt (again_turns header ground 0 Int ts))
        (line_seq (retyped (turn {before = Int ∷ Int ∷ ts} {after = const_type k ∷ Int ∷ Int ∷ ts}
        (ops.Const (literal_of k)) tt (const_turns header ground 0 k (Int ∷ Int ∷ ts)))
        (ap (λ (t : Ty). t ∷ Int ∷ Int ∷ ts) int))
        (line_seq (turn {before = Int ∷ Int ∷ Int ∷ ts} {after = Int ∷ Int ∷ ts} (ops.Equal 0x20 0) tt (case_turns header ground 0 (Int ∷ ts))) (tested_by Jnz at tt knows lt)))

    tests_flow : {P : (ℕ → Spot) → Type 0} (xs : TypedStmts) (n place at : ℕ) (ts : List Ty) → AllFitSwitches xs → ((k : ℕ) → k < count_labels xs → Knows P (at + k) (Int ∷ ts))
        → at + count_labels xs ≤ total → Lines P n 0 place (Int ∷ ts) (Int ∷ ts) (tests at xs)
    tests_flow no_stmt n place at ts fit known few = same_types
    tests_flow {P = P} (more_stmts (case_label m k) xs) n place at ts fit known few =
        line_seq (test_flows n place at k ts fit.0 (first_known P at (count_labels xs) (Int ∷ ts) known) (omega arith))
        (tests_flow xs n _ (at + 1) ts fit.1 (shifted P at (count_labels xs) (Int ∷ ts) known) (omega arith))
    tests_flow {P = P} (more_stmts (default_label m) xs) n place at ts fit known few =
        tests_flow xs n place (at + 1) ts fit.1 (shifted P at (count_labels xs) (Int ∷ ts) known) (omega arith)
    tests_flow (more_stmts s xs) n place at ts fit known few = tests_flow xs n place at ts fit.1 known few

    otherwise_is : (R : ℕ → Type 0) (xs : TypedStmts) (end at : ℕ) → R end → ((k : ℕ) → k < count_labels xs → R (at + k)) → R (otherwise end at xs)
    otherwise_is R no_stmt end at last each = last
    otherwise_is R (more_stmts (default_label m) xs) end at last each = let same : at + 0 ≡ at = omega arith in subst R same (each 0 (omega arith))
    otherwise_is R (more_stmts (case_label m k) xs) end at last each =
        otherwise_is R xs end (at + 1) last (λ k lt. (let same : at + (1 + k) ≡ at + 1 + k = omega arith in subst R same (each (1 + k) (omega arith))))
    otherwise_is R (more_stmts s xs) end at last each = otherwise_is R xs end at last each

    switch_flows : (m : ℕ) (e : TypedExpr) (ss : TypedStmts) → StmtsFlow ss → StmtFlows (switch m e ss)
    switch_flows m e ss each P n place depth scope ts breaks continues a b out sight fine fit is few d breaking continuing =
        let own : Spot = spot (Int ∷ ts) in
        let count : ℕ = count_labels ss in
        let Q : (ℕ → Spot) → Type 0 = λ spot_of. (P spot_of × (spot_of n ≡ own)) × ((i : ℕ) → i < count → spot_of (n + 1 + i) ≡ own) in
        let last : Knows Q n (Int ∷ ts) = λ spot_of holds. holds.0.1 in
        let known : (k : ℕ) → k < count → Knows Q (n + 1 + k) (Int ∷ ts) = λ k lt spot_of holds. holds.1 k lt in
        let to = otherwise_is (λ label. Knows Q label (Int ∷ ts) × (label < total)) ss n (n + 1) (last, omega arith) (λ k lt. (known k lt, omega arith)) in
        one_label own
        (with_same count own
        (seq (int_flows (n + 1 + count) place depth scope ts e sight fine.0.0 fine.0.1 is.0 (omega arith) d)
        (line_seq (tests_flow ss (n + 1 + count + labels e) _ (n + 1) ts fit.1 known (omega arith))
        (line_seq (jumped {us = Int ∷ ts} (otherwise n (n + 1) ss) to.0 to.1)
        (seq_line (each Q (n + 1 + count + labels e) _ (depth + 1) scope (Int ∷ ts) true continues true b (in_switch n (depth + 1) out) (Some (n + 1)) (sight_over x scope (Int ∷ []) ts sight)
        fine.1 fit.1 is.1 (omega arith) (omega (arith, d))
        (exit_here Q true (Int ∷ ts) n (depth + 1) (omega (arith, d)) last (omega arith))
        (exit_in P Q continues ts (Int ∷ []) out.continue_to out.continue_depth (λ spot_of holds. holds.0.0) continuing)
        (record { known = known; first = fit.0 }))
        (line_seq (dropped_flows ground (λ made. refl) (all_declared_cells l.structs ss) _ _ (all_declared l.structs ss) (Int ∷ ts) (sym (all_declared_length l.structs ss)))
        (line_seq (marked n last) (dropped_flows ground (λ made. refl) 1 _ _ (Int ∷ []) ts refl)))))) refl refl) refl refl) refl (omega arith)

    -- ---- in a row

    placed_flows : {P : (ℕ → Spot) → Type 0} (n place : ℕ) (at : Option ℕ) (s : TypedStmt) (ss : TypedStmts) (ts : List Ty) → LabelsAt P at (more_stmts s ss) ts → Lines P n 0 place ts ts (placed at s)
    placed_flows n place None s ss ts h = same_types
    placed_flows {P = P} n place (Some at) (case_label m k) ss ts h = marked at (first_known P at (count_labels ss) ts h.known)
    placed_flows {P = P} n place (Some at) (default_label m) ss ts h = marked at (first_known P at (count_labels ss) ts h.known)
    placed_flows n place (Some at) s ss ts h = same_types

    labels_behind : (P : (ℕ → Spot) → Type 0) (at : Option ℕ) (s : TypedStmt) (ss : TypedStmts) (ts : List Ty) → LabelsAt P at (more_stmts s ss) ts
        → LabelsAt P (placed_on at s) ss (declared l.structs s ++ ts)
    labels_behind P None s ss ts h = tt
    labels_behind P (Some at) (case_label m k) ss ts h = record { known = shifted P at (count_labels ss) ts h.known; first = h.first.1 }
    labels_behind P (Some at) (default_label m) ss ts h = record { known = shifted P at (count_labels ss) ts h.known; first = h.first.1 }
    labels_behind P (Some at) (declaration m t ds) ss ts h = record { known = λ k lt. absurd (none h.first.0 k lt); first = h.first.1 }
      where
        none : DeclaresNothing (declaration m t ds) ⊎ (count_labels ss ≡ 0) → (k : ℕ) → k < count_labels ss → ⊥
        none (inl c) k lt = c
        none (inr e) k lt = omega (arith, e)
    labels_behind P (Some at) s ss ts h = record { known = h.known; first = h.first.1 }

    more_flows : (s : TypedStmt) (ss : TypedStmts) → StmtFlows s → StmtsFlow ss → StmtsFlow (more_stmts s ss)
    more_flows s ss first rest P n place depth scope ts breaks continues a b out at sight fine fit are few d breaking continuing known =
        let vs : List Ty = declared l.structs s in
        line_seq (placed_flows n place at s ss ts known)
        (retyped (seq (first P n _ depth scope ts breaks continues a b out sight fine.0 fit.0 are.0 (omega arith) d breaking continuing)
        (rest P (n + stmt_labels s) _ (depth + declared_cells l.structs s) (after_stmt s scope) (vs ++ ts) breaks continues a b out (placed_on at s)
        (sight_after header functions x fn.result breaks continues depth scope ts s d fine.0 sight) fine.1 fit.1 are.1 (omega arith) (deeper depth vs ts _ (sym (declared_length l.structs s)) d)
        (exit_in P P breaks ts vs out.break_to out.break_depth (λ spot_of holds. holds) breaking) (exit_in P P continues ts vs out.continue_to out.continue_depth (λ spot_of holds. holds) continuing)
        (labels_behind P at s ss ts known)) refl refl) (sym (append_assoc (all_declared l.structs ss) vs ts)))

    -- ---- all of them

    mutual
      pub stmt_flows : (s : TypedStmt) → StmtFlows s
      stmt_flows (block m ss) = block_flows m ss (stmts_flow ss)
      stmt_flows (empty m) = λ P n place depth scope ts breaks continues a b out sight fine fit is few d breaking continuing. same_types
      stmt_flows (expression m e) = expression_flows m e
      stmt_flows (if_only m e s) = if_only_flows m e s (stmt_flows s)
      stmt_flows (if_else m e s t) = if_else_flows m e s t (stmt_flows s) (stmt_flows t)
      stmt_flows (while_loop m e s) = while_flows m e s (stmt_flows s)
      stmt_flows (do_loop m s e) = do_flows m s e (stmt_flows s)
      stmt_flows (for_loop m v y z s) = for_flows m v y z s (stmt_flows s)
      stmt_flows (switch m e ss) = switch_flows m e ss (stmts_flow ss)
      stmt_flows (break_off m) = λ P n place depth scope ts breaks continues a b out sight fine fit is few d breaking continuing.
          leave_flows n place depth ts ts out.break_to out.break_depth d (breaking fine)
      stmt_flows (continue_on m) = λ P n place depth scope ts breaks continues a b out sight fine fit is few d breaking continuing.
          leave_flows n place depth ts ts out.continue_to out.continue_depth d (continuing fine)
      stmt_flows (return_from m v) = λ P n place depth scope ts breaks continues a b out sight fine fit is few d breaking continuing.
          return_flows n place depth scope ts ts v sight fine is few d
      stmt_flows (declaration m t ds) = λ P n place depth scope ts breaks continues a b out sight fine fit is few d breaking continuing.
          names_flow ground (λ made. refl) fn.result ds n place depth scope ts sight (inl made) fine is few d
      stmt_flows (case_label m k) = λ P n place depth scope ts breaks continues a b out sight fine fit is few d breaking continuing. same_types
      stmt_flows (default_label m) = λ P n place depth scope ts breaks continues a b out sight fine fit is few d breaking continuing. same_types

      pub stmts_flow : (ss : TypedStmts) → StmtsFlow ss
      stmts_flow no_stmt = λ P n place depth scope ts breaks continues a b out at sight fine fit are few d breaking continuing known. same_types
      stmts_flow (more_stmts s ss) = more_flows s ss (stmt_flows s) (stmts_flow ss)
