-- Functions do what their calls mean, by the number of calls that may nest.
use Rattle.std.proofs.Common.{arith, ◌≡◌, ◌≤◌, ◌+◌, ◌-◌, ℕ, zero, suc, List, [], ◌∷◌, ◌++◌, length, Option, Some, None, true, false, sym, subst, ◌∙◌, ap, refl}
use Rattle.std.specs.Prelude.{slice_get}
use Rattle.std.specs.List.{AllByRecursion}
use Rattle.std.proofs.lemmas.List.{length-map}
use Rattle.nwq_value.specs.declared.value.Ty.{Ty}
use Rattle.nwq_value.specs.declared.value.Ty.TheVariants.{Void, Int as IntTy, Text as TextTy, Object as ObjectTy, Effect as EffectTy, Event as EventTy, Action, Struct, Refused}
use Rattle.nwq_value.specs.declared.value.Value.{Value}
use Rattle.nwq_value.specs.Values.{type_of as type_of_value}
use Rattle.ncs_code.specs.Plain as ops
use Rattle.ncs_code.specs.File.{op_at}
use Rattle.ncs_emit.specs.Labelled.{Instruction, lines_size}
use Rattle.ncs_emit.specs.Standing.{LinesStand}
use Rattle.typing_rules.specs.declared.places.Callee.TheVariants.{Unit as InUnit, Engine}
use Rattle.typing_rules.specs.declared.places.Place.TheVariants.{Local, Global, Const as IsConst}
use Rattle.typing_rules.specs.Typed.{TypedExpr, TypedExprs, TypedParameter, literal, name, call, member, prefix, postfix, binary, assign, no_typed, more_typed}
use Rattle.typing_rules.specs.Cells.{cell_types}
use Rattle.saved_state.specs.declared.cell.Cell.{Cell}
use Rattle.saved_state.specs.declared.saved.Saved.{Saved}
use Rattle.emission_rules.specs.Bounds.{IsCell}
use Rattle.emission_rules.specs.Layout.{params_cells, position, all_declared_cells}
use Rattle.emission_rules.specs.Operations.{dropped}
use Rattle.emission_rules.specs.Statements.{no_exits, emit_stmts}
use Rattle.world_rules.specs.Pure.{CellLookup}
use Rattle.world_rules.specs.World.{World}
use Rattle.machine_rules.specs.Cells.{value_types}
use Rattle.machine_rules.specs.Laws.{EqualityIsTested}
use Rattle.source_meaning.specs.Values.{start_part, start_parts}
use Rattle.source_meaning.specs.Evaluation.{Variables, no_variables, Deferred, Progress, Gives}
use Rattle.source_meaning.specs.Expressions.{Caller}
use Rattle.source_meaning.specs.Statements.{Flow, Next, Broke, Continued, Returned, execs}
use Rattle.source_meaning.specs.Scripts.{Function, bound, result_of, body_run, calls, parameter_names}
use Rattle.source_laws.specs.Ledger.{MachineHost, Took, Sim}
use Rattle.source_laws.specs.Kept.{pushed, Site, IsListed, at, In, part_types, Vars, Kept, spot_at}
use Rattle.source_laws.specs.Carries.{Carries}
use Rattle.source_laws.specs.Simulation.{Executor, running_at, ExprRuns}
use Rattle.source_laws.specs.Calling.{pushed_all, all_types, EngineRuns, CapturesCarry, ExecutesRun}
use Rattle.source_laws.specs.FineStatements.{after_stmts}
use Rattle.source_laws.specs.StatementsRun.{IsExit, FlowHolds, flow_place, one_of, flow_credits}
use Rattle.source_laws.specs.FunctionsRun.{KeepsGlobals, parameter_types, HasResult, result_place, CallsRun, AreParameters, IsPlaced, FunctionsRun}
use Rattle.source_laws.proofs.Cells.{pushed_over, pushed_length}
use Rattle.source_laws.proofs.Ledger.{took_none, took_cost, took_then, took_less, sim_bind}
use Rattle.source_laws.proofs.Steps.{both_stand}
use Rattle.source_laws.proofs.Calls.{all_over, held_all}
use Rattle.source_laws.proofs.Expressions.{literal_runs, local_runs, global_runs, constant_runs, member_runs, prefix_runs, postfix_runs, binary_runs, assign_runs}
use Rattle.source_laws.proofs.EngineCalls.{EachRuns, engine_call_runs}
use Rattle.source_laws.proofs.UnitCalls.{unit_call_runs}
use Rattle.source_laws.proofs.Statements.{vars_new, within, seen_stmts, lower_kept, lower_goes, goes_back}
use Rattle.source_laws.proofs.AllStatements.{all_too, stmts_do}

-- ---- all expressions, where the functions do what their calls mean

module _ (host : MachineHost) (R : Saved → Deferred → Type 0) (tested : EqualityIsTested) (x : Site) (listed : IsListed host x)
    (tables : CellLookup) (execute : Executor) (functions : List Function) (caller : Caller) (most : ℕ)
    (engine_runs : EngineRuns host R tables) (captures : CapturesCarry host R x tables execute functions) (executes : ExecutesRun host R x execute most)
    (calls_run : CallsRun host R x functions caller most)
    (results : (g : ℕ) (fn : Function) → slice_get functions g ≡ Some fn → AllByRecursion IsCell (cell_types x.layout.structs fn.result)) where
  mutual
    pub every_runs : (e : TypedExpr) → ExprRuns host R x tables execute functions caller most e
    every_runs (literal k) = literal_runs host R tested x listed tables execute functions caller most k
    every_runs (name t (Local n)) = local_runs host R tested x listed tables execute functions caller most t n
    every_runs (name t (Global n)) = global_runs host R tested x listed tables execute functions caller most t n
    every_runs (name t (IsConst k)) = constant_runs host R tested x listed tables execute functions caller most t k
    every_runs (call t (InUnit f) es ks) = unit_call_runs host R tested x listed tables execute functions caller most t f es ks captures calls_run results (each_of_them es)
    every_runs (call t (Engine n) es ks) = engine_call_runs host R tested x listed tables execute functions caller most t n es ks engine_runs captures executes (each_of_them es)
    every_runs (member t e before) = member_runs host R tested x listed tables execute functions caller most t e before (every_runs e)
    every_runs (prefix t o e) = prefix_runs host R tested x listed tables execute functions caller most t o e (every_runs e)
    every_runs (postfix t o e) = postfix_runs host R tested x listed tables execute functions caller most t o e
    every_runs (binary t o d e) = binary_runs host R tested x listed tables execute functions caller most t o d e (every_runs d) (every_runs e)
    every_runs (assign t o d e) = assign_runs host R tested x listed tables execute functions caller most t o d e (every_runs e)

    each_of_them : (es : TypedExprs) → EachRuns host R tested x listed tables execute functions caller most es
    each_of_them no_typed = tt
    each_of_them (more_typed e es) = (λ plain. every_runs e, each_of_them es)

-- ---- parameters

pub record Bound (x : Site) (ps : List TypedParameter) (values : List (List Value)) : Type 0 where
  pub variables : Vars x (parameter_names ps) (pushed_all values []) (bound ps values)
  pub size : length (pushed_all values []) ≡ params_cells x.layout.structs ps

pub bound_are : (x : Site) (ps : List TypedParameter) (values : List (List Value)) → AreParameters x ps → all_types values ≡ parameter_types x ps → Bound x ps values
bound_are x [] [] h types = record { variables = record { value = λ n i. absurd i; typed = λ n i. absurd i; apart = λ m n i j. absurd i }; size = refl }
bound_are x [] (v ∷ vs) h types = absurd cc
bound_are x (p ∷ ps) [] h types = absurd cc
bound_are x (p ∷ ps) (v ∷ vs) h types =
    let first : value_types v ≡ cell_types x.layout.structs p.ty = cc in
    let rest : all_types vs ≡ parameter_types x ps = cc in
    let b = bound_are x ps vs h.2 rest in
    let long : length v ≡ length (cell_types x.layout.structs p.ty) = sym (length-map v type_of_value) ∙ ap length first in
    let n = pushed_length v (pushed_all vs []) in
    let m = b.size in
    record {
      variables = vars_new x (parameter_names ps) (pushed_all vs []) (bound ps vs) p.name.number v b.variables (b.size ∙ sym h.0) (first ∙ ap (cell_types x.layout.structs) (sym h.1));
      size = omega (arith, long, n, m);
    }

nothing_left : (cells : List Cell) → length cells ≡ 0 → cells ≡ []
nothing_left [] h = refl
nothing_left (c ∷ cells) h = absurd (omega arith)

never : false ≡ true → ⊥
never h = absurd cc

start_type : (t : Ty) → IsCell t → type_of_value (start_part t) ≡ t
start_type IntTy h = refl
start_type TextTy h = refl
start_type ObjectTy h = refl
start_type EffectTy h = refl
start_type EventTy h = refl
start_type Void h = absurd h
start_type Action h = absurd h
start_type (Struct n) h = absurd h
start_type Refused h = absurd h

few_ones : (n : ℕ) → one_of n ≤ 1
few_ones zero = omega arith
few_ones (suc n) = omega arith

-- outside of loops nothing is left by `break` or `continue`
not_allowed : (x : Site) (scope : List ℕ) (size : ℕ) → IsExit x scope size (record { allowed = false; scope = []; depth = 0; label = 0 })
not_allowed x scope size = record { within = λ a. absurd (never a); seen = λ a n i. absurd i; beneath = λ a n i. absurd i }

-- ---- one function

module _ (host : MachineHost) (R : Saved → Deferred → Type 0) (tested : EqualityIsTested) (x : Site) (listed : IsListed host x)
    (tables : CellLookup) (execute : Executor) (functions : List Function) (caller : Caller) (most : ℕ)
    (runs : (e : TypedExpr) → ExprRuns host R x tables execute functions caller most e) where
  abbrev globals_alone : {globals locals : Variables} {world : World Deferred} → Kept R x [] 0 globals locals world → Kept R x [] 0 globals no_variables world
  globals_alone K = record {
    under = K.under;
    frame = [];
    machine = K.machine;
    under_size = K.under_size;
    frame_size = refl;
    under_held = K.under_held;
    frame_held = tt;
    global_values = K.global_values;
    local_values = record { value = λ n i. absurd i; typed = λ n i. absurd i; apart = λ m n i j. absurd i };
    alike = K.alike;
  }

  pub function_runs : (f : ℕ) (fn : Function) → IsPlaced host.table functions x f fn → (values : List (List Value)) → all_types values ≡ parameter_types x fn.parameters
      → (p : Progress) → p.left ≤ most → (K : KeepsGlobals R x p) (lower : List Cell) (back : ℕ) (calls : List ℕ) (pending : List Saved) (c d : ℕ) → d + 3 ≤ c
      → Sim host R (HasResult R x fn.result) (result_place R x fn.result back lower calls pending) p.left c
      (at x (x.places f) (pushed_all values
      (pushed (start_parts (cell_types x.layout.structs fn.result)) (lower ++ K.under)))
      (back ∷ calls) pending K.machine) (λ v. d)
      (body_run (running_at host tables execute x) caller (Some fn) values p)
  function_runs f fn placed values types p le K lower back calls pending c d enough =
      let structs = x.layout.structs in
      let room = start_parts (cell_types structs fn.result) in
      let size = params_cells structs fn.parameters in
      let many = all_declared_cells structs fn.body in
      let scope = parameter_names fn.parameters in
      let body = emit_stmts x.layout no_exits placed.label size None fn.body in
      let last = dropped many ++ (dropped size ++ Instruction ops.Retn ∷ []) in
      let start = x.places f + 0 in
      let a = both_stand x.code x.places start body last placed.stands.1 in
      let one = start + lines_size body in
      let e = both_stand x.code x.places one (dropped many) (dropped size ++ Instruction ops.Retn ∷ []) a.1 in
      let two = one + lines_size (dropped many) in
      let g = both_stand x.code x.places two (dropped size) (Instruction ops.Retn ∷ []) e.1 in
      let b = bound_are x fn.parameters values placed.parameters types in
      let K0 : Kept R x scope size p.globals (bound fn.parameters values) p.world = record {
        under = K.under;
        frame = pushed_all values [];
        machine = K.machine;
        under_size = K.under_size;
        frame_size = b.size;
        under_held = K.under_held;
        frame_held = held_all values [] tt;
        global_values = K.global_values;
        local_values = b.variables;
        alike = K.alike;
      } in
      let q = record p { locals = bound fn.parameters values } in
      let same : x.places f ≡ start = omega arith in
      let cells_are : pushed_all values (pushed room (lower ++ K.under)) ≡ pushed_all values [] ++ (pushed room lower ++ K.under) =
      ap (pushed_all values) (sym (pushed_over room lower K.under)) ∙ sym (all_over values [] (pushed room lower ++ K.under)) in
      let typed = start_typed (cell_types structs fn.result) placed.cells in
      subst (λ (z : ℕ). Sim host R (HasResult R x fn.result)
      (result_place R x fn.result back lower calls pending) p.left c
      (at x z (pushed_all values (pushed room (lower ++ K.under))) (back ∷ calls) pending K.machine) (λ v. d)
      (body_run (running_at host tables execute x) caller (Some fn) values p)) (sym same)
      (subst (λ (z : List Cell). Sim host R (HasResult R x fn.result) (result_place R x fn.result back lower calls pending) p.left c (at x start z (back ∷ calls) pending K.machine) (λ v. d)
      (body_run (running_at host tables execute x) caller (Some fn) values p)) (sym cells_are)
      (sim_bind host R (FlowHolds R x fn.result (record { allowed = false; scope = []; depth = 0; label = 0 })
      (record { allowed = false; scope = []; depth = 0; label = 0 }) (after_stmts fn.body scope) (size + many))
      (flow_place R x fn.result (record { allowed = false; scope = []; depth = 0; label = 0 })
      (record { allowed = false; scope = []; depth = 0; label = 0 }) (after_stmts fn.body scope)
      (size + many) one room lower back calls pending)
      (HasResult R x fn.result) (result_place R x fn.result back lower calls pending) p.left c (spot_at R x start [] (pushed room lower) (back ∷ calls) pending K0) (flow_credits c many) (λ v. d)
      (execs (running_at host tables execute x) caller (parameter_names fn.parameters) fn.body q) (λ flow r. Gives (result_of (cell_types structs fn.result) flow) r)
      (stmts_do host R tested x listed tables execute functions caller most fn.result (λ e. Unit {0}) (λ e u. runs e) fn.body (all_too (λ e. Unit {0}) (λ e. tt) fn.body)
      no_exits (record { allowed = false; scope = []; depth = 0; label = 0 })
      (record {
        allowed = false;
        scope = [];
        depth = 0;
        label = 0;
      }) scope size placed.label start c q K0 room lower back calls pending placed.fine a.0
      (record { break_label = refl; break_depth = refl; continue_label = refl; continue_depth = refl }) (not_allowed x scope size) (not_allowed x scope size) typed le)
      (λ flow r h less. left_by fn scope size many one two lower back calls pending c d enough
      (seen_stmts fn.body scope)
      (λ n i. fits (within x scope (pushed_all values [])
      (bound fn.parameters values) b.variables n i) b.size) typed e.0 g.0 g.1.0 flow r h)))
    where
      fits : {m n k : ℕ} → m ≤ n → n ≡ k → m ≤ k
      fits h same = omega (arith, h, same)

      start_typed : (ts : List Ty) → AllByRecursion IsCell ts → value_types (start_parts ts) ≡ ts
      start_typed [] h = refl
      start_typed (t ∷ ts) h = ap (λ u. u ∷ value_types (start_parts ts)) (start_type t h.0) ∙ ap (λ us. t ∷ us) (start_typed ts h.1)

      left_by : (fn : Function) (scope : List ℕ) (size many one two : ℕ) (lower : List Cell) (back : ℕ) (calls : List ℕ) (pending : List Saved) (c d : ℕ) → d + 3 ≤ c
          → ((n : ℕ) → In n scope → In n (after_stmts fn.body scope)) → ((n : ℕ) → In n scope → position x.layout n + length (part_types x n) ≤ size)
          → value_types (start_parts (cell_types x.layout.structs fn.result)) ≡ cell_types x.layout.structs fn.result
          → LinesStand x.code x.places one (dropped many) → LinesStand x.code x.places (one + lines_size (dropped many)) (dropped size)
          → op_at x.code (one + lines_size (dropped many) + lines_size (dropped size)) ≡ Some ops.Retn
          → (flow : Flow) (r : Progress)
          (h : FlowHolds R x fn.result (record { allowed = false; scope = []; depth = 0; label = 0 })
          (record { allowed = false; scope = []; depth = 0; label = 0 }) (after_stmts fn.body scope)
          (size + many) flow r)
          → Sim host R (HasResult R x fn.result) (result_place R x fn.result back lower calls pending) r.left (flow_credits c many flow)
          (flow_place R x fn.result (record { allowed = false; scope = []; depth = 0; label = 0 })
          (record { allowed = false; scope = []; depth = 0; label = 0 }) (after_stmts fn.body scope)
          (size + many) one (start_parts (cell_types x.layout.structs fn.result)) lower back calls pending flow r h)
          (λ v. d) (Gives (result_of (cell_types x.layout.structs fn.result) flow) r)
      left_by fn scope size many one two lower back calls pending c d enough seen beneath typed drops more returns Next r h =
          let room = start_parts (cell_types x.layout.structs fn.result) in
          let between = pushed room lower in
          let less : size ≤ size + many = omega arith in
          let gone : size + many - size ≡ many = omega arith in
          let first = lower_goes host R x listed tables execute functions caller most fn.result h scope size less seen beneath r.left c one between (back ∷ calls) pending many gone drops in
          let K1 = lower_kept host R x listed tables execute functions caller most fn.result h scope size less seen beneath in
          let none : 0 ≤ size = omega arith in
          let all : size - 0 ≡ size = omega arith in
          let second = lower_goes host R x listed tables execute functions caller most fn.result K1 [] 0 none
          (λ n i. absurd i) (λ n i. absurd i) r.left (d + 1) (one + lines_size (dropped many)) between
          (back ∷ calls) pending size all more in
          let K2 = lower_kept host R x listed tables execute functions caller most fn.result K1 [] 0 none (λ n i. absurd i) (λ n i. absurd i) in
          let few = few_ones size in
          let bare = nothing_left K2.frame K2.frame_size in
          let s2 = spot_at R x (one + lines_size (dropped many) + lines_size (dropped size)) [] between (back ∷ calls) pending K2 in
          let s3 = spot_at R x back [] between calls pending K2 in
          let third = goes_back host R x listed tables execute functions caller most fn.result
          (one + lines_size (dropped many) + lines_size (dropped size)) back
          (K2.frame ++ (between ++ K2.under)) calls pending K2.machine returns in
          let ending : K2.frame ++ (between ++ K2.under) ≡ pushed room (lower ++ K2.under) = ap (λ t. t ++ (between ++ K2.under)) bare ∙ pushed_over room lower K2.under in (
            (typed, globals_alone K2),
            subst (λ (z : List Cell). Took host r.left (c + one_of many) (spot_at R x one [] between (back ∷ calls) pending h) r.left d (at x back z calls pending K2.machine)) ending
                (took_then host first (took_then host
                (took_less host (d + 1 + one_of size) (omega (arith, enough, few))
                (took_none host r.left c (spot_at R x (one + lines_size (dropped many)) [] between
                (back ∷ calls) pending K1)))
                (took_then host second (took_cost host r.left (d + 1) d s2 s3 (omega arith) third)))),
          )
      left_by fn scope size many one two lower back calls pending c d enough seen beneath typed drops more returns Broke r h = absurd (never h.0)
      left_by fn scope size many one two lower back calls pending c d enough seen beneath typed drops more returns Continued r h = absurd (never h.0)
      left_by fn scope size many one two lower back calls pending c d enough seen beneath typed drops more returns (Returned v) r h =
          let bare = nothing_left h.1.frame h.1.frame_size in
          let ending : h.1.frame ++ (pushed v lower ++ h.1.under) ≡ pushed v (lower ++ h.1.under) = ap (λ t. t ++ (pushed v lower ++ h.1.under)) bare ∙ pushed_over v lower h.1.under in (
            (h.0, globals_alone h.1),
            subst (λ (z : List Cell). Took host r.left c (spot_at R x back [] (pushed v lower) calls pending h.1) r.left d (at x back z calls pending h.1.machine)) ending
                (took_less host d (omega (arith, enough)) (took_none host r.left c (spot_at R x back [] (pushed v lower) calls pending h.1))),
          )

-- ---- recursion

found_run : (host : MachineHost) (R : Saved → Deferred → Type 0) (x : Site) (tables : CellLookup) (execute : Executor)
    (caller : Caller) (f : ℕ) (fn : Function) (found : Option Function) (values : List (List Value)) (p : Progress)
    → found ≡ Some fn
    → body_run (running_at host tables execute x) caller (Some fn) values p ≡ body_run (running_at host tables execute x) caller found values p
found_run host R x tables execute caller f fn found values p h = ap (λ o. body_run (running_at host tables execute x) caller o values p) (sym h)

pub functions_run : EqualityIsTested → FunctionsRun
functions_run tested s host x tables execute fs listed engine_runs captures executes placed zero =
    let none : CallsRun host (Carries s) x fs (calls (running_at host tables execute x) fs 0) 0 = λ f fn is values types p less K lower back cs pending c d enough. absurd (omega (arith, less)) in (
      none,
      λ e. every_runs host (Carries s) tested x listed tables execute fs
          (calls (running_at host tables execute x) fs 0) 0 engine_runs captures (executes 0) none
          (λ g fn is. (placed g fn is).cells) e,
    )
functions_run tested s host x tables execute fs listed engine_runs captures executes placed (suc k) =
    let before = functions_run tested s host x tables execute fs listed engine_runs captures executes placed k in
    let c = running_at host tables execute x in
    let now : CallsRun host (Carries s) x fs (calls c fs (suc k)) (suc k) = λ f fn is values types p less K lower back cs pending credits rest enough.
    subst (λ r. Sim host (Carries s) (HasResult (Carries s) x fn.result) (result_place (Carries s) x fn.result back lower cs pending) p.left credits
    (at x (x.places f) (pushed_all values (pushed (start_parts (cell_types x.layout.structs fn.result)) (lower ++ K.under))) (back ∷ cs) pending K.machine) (λ v. rest) r)
    (found_run host (Carries s) x tables execute (calls c fs k) f fn (slice_get fs f) values p is)
    (function_runs host (Carries s) tested x listed tables execute fs (calls c fs k) k before.1 f fn
    (placed f fn is) values types p (omega (arith, less)) K lower back cs pending credits rest enough) in
    (now, λ e. every_runs host (Carries s) tested x listed tables execute fs (calls c fs (suc k)) (suc k) engine_runs captures (executes (suc k)) now (λ g fn is. (placed g fn is).cells) e)
