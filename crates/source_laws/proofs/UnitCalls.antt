-- The code of a call of a function of the script does what the call means, where the functions do.
use Rattle.std.proofs.Common.{arith, ◌≡◌, ◌≤◌, ◌+◌, ℕ, List, [], ◌∷◌, ◌++◌, length, map, Some, Bool, true, false, sym, subst, ◌∙◌, ap, refl, append_assoc}
use Rattle.std.specs.Prelude.{ℤ, slice_get, if◌then◌else◌}
use Rattle.std.specs.List.{AllByRecursion}
use Rattle.std.proofs.lemmas.List.{length-map}
use Rattle.nwq_value.specs.declared.value.Ty.{Ty}
use Rattle.nwq_value.specs.declared.value.Ty.TheVariants.{Action}
use Rattle.nwq_value.specs.declared.value.Value.{Value}
use Rattle.nwq_value.specs.declared.engine.Const.{Const}
use Rattle.nwq_value.specs.declared.engine.Const.TheVariants as const
use Rattle.nwq_value.specs.Engine.{const_type}
use Rattle.nwq_value.specs.Values.{type_of as type_of_value}
use Rattle.ncs_code.specs.Plain as ops
use Rattle.ncs_code.specs.File.{op_at, jump_place}
use Rattle.ncs_emit.specs.declared.jump.Jump.TheVariants.{Jsr}
use Rattle.ncs_emit.specs.Labelled.{JumpTo, lines_size}
use Rattle.ncs_emit.specs.Standing.{LinesStand}
use Rattle.typing_rules.specs.declared.places.Callee.TheVariants.{Unit as InUnit}
use Rattle.typing_rules.specs.Typed.{TypedExpr, TypedExprs, TypedParameter, call, no_typed, more_typed, type_of}
use Rattle.typing_rules.specs.Cells.{Structs, cell_types, is_captured}
use Rattle.saved_state.specs.declared.cell.Cell.{Cell}
use Rattle.saved_state.specs.declared.saved.Saved.{Saved}
use Rattle.emission_rules.specs.Bounds.{IsCell}
use Rattle.emission_rules.specs.Operations.{started}
use Rattle.emission_rules.specs.Expressions.{constants, emit_all}
use Rattle.world_rules.specs.Pure.{CellLookup}
use Rattle.world_rules.specs.World.{World}
use Rattle.machine_rules.specs.Act.{act, Moves}
use Rattle.machine_rules.specs.Machine.{Goes, step}
use Rattle.machine_rules.specs.Laws.{EqualityIsTested}
use Rattle.source_meaning.specs.Values.{start_parts}
use Rattle.source_meaning.specs.Evaluation.{Variables, no_variables, Deferred, Progress, Outcome, Gives, bind}
use Rattle.source_meaning.specs.Expressions.{Caller, Arguments, made, unit_called}
use Rattle.source_meaning.specs.Scripts.{Function}
use Rattle.source_laws.specs.Ledger.{Machine, MachineHost, Took, Sim}
use Rattle.source_laws.specs.Kept.{pushed, Site, IsListed, at, Kept, spot_at}
use Rattle.source_laws.specs.Fine.{argument_type, argument_types, AreValues, parameter_type, CallsFunction}
use Rattle.source_laws.specs.Simulation.{Executor, HoldsValue, value_place, value_credits, ExprRuns}
use Rattle.source_laws.specs.Calling.{pushed_all, all_types, with_types, types_before, constant_types, one_if, actions_in, CapturesCarry}
use Rattle.source_laws.specs.FunctionsRun.{parameter_types, HasResult, result_place, CallsRun}
use Rattle.source_laws.proofs.Cells.{pushed_over, pushed_length, held_pushed}
use Rattle.source_laws.proofs.Ledger.{took_none, took_less, sim_after, sim_bind, sim_paid}
use Rattle.source_laws.proofs.Places.{above_globals}
use Rattle.source_laws.proofs.Steps.{both_stand, sizes, acted}
use Rattle.source_laws.proofs.Calls.{all_over}
use Rattle.source_laws.proofs.EngineCalls.{EachRuns, HasCall, call_place, arguments_of, call_arguments_run, spare, spare_defaults, spare_more}
use Rattle.source_laws.proofs.Statements.{HasParts, parts_place, made_runs}
use Rattle.source_laws.specs.StatementsRun.{one_of}

-- ---- arguments that are values

no_action : (es : TypedExprs) → AreValues es → actions_in es ≡ 0
no_action no_typed h = refl
no_action (more_typed e es) h = ap (λ (b : Bool). one_if b + actions_in es) h.0 ∙ none (actions_in es) (no_action es h.1)
  where
    none : (n : ℕ) → n ≡ 0 → 0 + n ≡ 0
    none n h = omega arith

constant_single : (structs : Structs) (k : Const) → const_type k ∷ [] ≡ cell_types structs (const_type k)
constant_single structs (const.Int n) = refl
constant_single structs (const.Text bytes) = refl
constant_single structs const.SelfObject = refl
constant_single structs const.InvalidObject = refl

constants_are : (x : Site) (ks : List Const) (ps : List TypedParameter) → map const_type ks ≡ map parameter_type ps → constant_types ks ≡ parameter_types x ps
constants_are x [] [] h = refl
constants_are x [] (p ∷ ps) h = absurd cc
constants_are x (k ∷ ks) [] h = absurd cc
constants_are x (k ∷ ks) (p ∷ ps) h =
    let first : const_type k ≡ p.ty = cc in
    let rest : map const_type ks ≡ map parameter_type ps = cc in
    ap (λ ts. ts ∷ constant_types ks) (constant_single x.layout.structs k ∙ ap (cell_types x.layout.structs) first) ∙ ap (λ r. cell_types x.layout.structs p.ty ∷ r) (constants_are x ks ps rest)

value_case : (x : Site) (b : Bool) (e : TypedExpr) (p : TypedParameter) (rest ts : List (List Ty)) → b ≡ false
    → (if b then Action else type_of e) ≡ p.ty → rest ≡ ts
    → with_types b (cell_types x.layout.structs (type_of e)) rest ≡ cell_types x.layout.structs p.ty ∷ ts
value_case x true e p rest ts h k next = absurd cc
value_case x false e p rest ts h k next = ap (λ u. cell_types x.layout.structs u ∷ rest) k ∙ ap (λ r. cell_types x.layout.structs p.ty ∷ r) next

values_fit : (x : Site) (es : TypedExprs) (ks : List Const) (ps : List TypedParameter)
    → argument_types es ks ≡ map parameter_type ps → AreValues es
    → types_before x.layout.structs es (constant_types ks) ≡ parameter_types x ps
values_fit x no_typed ks ps h values = constants_are x ks ps h
values_fit x (more_typed e es) ks [] h values = absurd cc
values_fit x (more_typed e es) ks (p ∷ ps) h values =
    let first : argument_type e ≡ p.ty = cc in
    let rest : argument_types es ks ≡ map parameter_type ps = cc in
    value_case x (is_captured e) e p (types_before x.layout.structs es (constant_types ks)) (parameter_types x ps) values.0 first (values_fit x es ks ps rest values.1)

module _ (host : MachineHost) (R : Saved → Deferred → Type 0) (tested : EqualityIsTested) (x : Site) (listed : IsListed host x)
    (tables : CellLookup) (execute : Executor) (functions : List Function) (caller : Caller) (most : ℕ) where
  abbrev Runs : TypedExpr → Type 0
  Runs e = ExprRuns host R x tables execute functions caller most e

  pub call_goes : (place next : ℕ) (offset : ℤ) (cells : List Cell) (calls : List ℕ) (pending : List Saved)
      (world : World Saved) → op_at x.code place ≡ Some (ops.Jsr offset) → jump_place place offset ≡ next
      → step host (at x place cells calls pending world) ≡ Some (Goes (at x next cells ((place + 6) ∷ calls) pending world))
  unfolding act
  call_goes place next offset cells calls pending world begins goes =
      acted host x listed place (ops.Jsr offset) cells calls pending world (Moves (at x (jump_place place offset) cells ((place + 6) ∷ calls) pending world).running) begins refl
      ∙ ap (λ k. Some (Goes (at x k cells ((place + 6) ∷ calls) pending world))) goes

  -- credits that are not needed
  sim_less : (host : MachineHost) (R : Saved → Deferred → Type 0) (B : List Value → Progress → Type 0)
      (there : (v : List Value) (p : Progress) → B v p → Machine) (n c d : ℕ) (s : Machine) (e : List Value → ℕ)
      (r : Outcome (List Value)) → c ≤ d
      → Sim host R B there n c s e r → Sim host R B there n d s e r
  sim_less host R B there n c d s e r less h = sim_after host R B there e r (took_less host c less (took_none host n d s)) h

  -- the globals without the frame, and with it again
  abbrev globals_of : {scope : List ℕ} {size : ℕ} {globals locals : Variables} {world : World Deferred} → Kept R x scope size globals locals world → Kept R x [] 0 globals no_variables world
  globals_of K = record {
    under = K.under;
    frame = [];
    machine = K.machine;
    under_size = K.under_size;
    frame_size = refl;
    under_held = K.under_held;
    frame_held = tt;
    global_values = K.global_values;
    local_values = record { value = λ n i. absurd i; typed = λ n i. absurd i; apart = λ n k i j. absurd i };
    alike = K.alike;
  }

  abbrev with_frame : {scope : List ℕ} {size : ℕ} {globals locals before : Variables} {world earlier : World Deferred}
      → Kept R x scope size before locals earlier → Kept R x [] 0 globals no_variables world
      → Kept R x scope size globals locals world
  with_frame K G = record {
    under = G.under;
    frame = K.frame;
    machine = G.machine;
    under_size = G.under_size;
    frame_size = K.frame_size;
    under_held = G.under_held;
    frame_held = K.frame_held;
    global_values = G.global_values;
    local_values = K.local_values;
    alike = G.alike;
  }

  jsr_runs : (t : Ty) (f : ℕ) (es : TypedExprs) (ks : List Const) → CallsRun host R x functions caller most → (fine : CallsFunction functions t f es ks)
      → (scope : List ℕ) (size place next c : ℕ) (a : Arguments) (q : Progress) (temps between : List Cell) (calls : List ℕ) (pending : List Saved)
      → (h : HasCall host R tested x listed tables execute functions caller most scope size es ks pending a q)
      → (offset : ℤ) → op_at x.code place ≡ Some (ops.Jsr offset) → jump_place place offset ≡ x.places f
      → place + 6 ≡ next → q.left ≤ most
      → Sim host R (HoldsValue R x scope size t)
      (value_place R x scope size t next temps between calls pending) q.left c
      (spot_at R x place (pushed_all a.values
      (pushed (start_parts (cell_types x.layout.structs t)) temps)) between calls h.now h.kept) (value_credits c)
      (unit_called caller f a q)
  jsr_runs t f es ks calls_run fine scope size place next c a q temps between calls pending h offset begins leads ending le =
      let K = h.kept in
      let room = start_parts (cell_types x.layout.structs t) in
      let rest = K.frame ++ (between ++ K.under) in
      let lower = temps ++ (K.frame ++ between) in
      let none = h.none (no_action es fine.values) in
      let types : all_types a.values ≡ parameter_types x fine.function.parameters = h.types ∙ values_fit x es ks fine.function.parameters fine.arguments fine.values in
      let result_is = ap (cell_types x.layout.structs) fine.result in
      let cells_are : pushed_all a.values (pushed room temps) ++ rest ≡ pushed_all a.values (pushed room (lower ++ K.under)) =
      all_over a.values (pushed room temps) rest ∙ ap (pushed_all a.values) (pushed_over room temps rest ∙ ap (pushed room) (above_globals temps K.frame between K.under)) in
      let s = spot_at R x place (pushed_all a.values (pushed room temps)) between calls h.now K in
      let s1 = at x (x.places f) (pushed_all a.values (pushed room (lower ++ K.under))) (next ∷ calls) pending K.machine in
      let goes : step host s ≡ Some (Goes s1) =
      call_goes place (x.places f) offset (pushed_all a.values (pushed room temps) ++ rest) calls h.now K.machine begins leads
      ∙ ap (λ z. Some (Goes (at x (x.places f) z ((place + 6) ∷ calls) h.now K.machine))) cells_are
      ∙ ap (λ z. Some (Goes (at x (x.places f) (pushed_all a.values (pushed room (lower ++ K.under))) ((place + 6) ∷ calls) z K.machine))) none.1
      ∙ ap (λ z. Some (Goes (at x (x.places f) (pushed_all a.values (pushed room (lower ++ K.under))) (z ∷ calls) pending K.machine))) ending in
      sim_paid host R (HoldsValue R x scope size t) (value_place R x scope size t next temps between calls pending) c s
      (value_credits c) q (λ r. bind (caller f a.values r)
      (λ parts u. Gives parts (record u { locals = r.locals }))) K.alike
      (λ m left.
      let r = record q { left = m } in (
        s1,
        goes,
        sim_bind host R (HasResult R x fine.function.result)
            (result_place R x fine.function.result next lower calls pending) (HoldsValue R x scope size t)
            (value_place R x scope size t next temps between calls pending)
            m (15 + c) s1 (λ v. 12 + c) (value_credits c) (caller f a.values r) (λ parts u. Gives parts (record u { locals = r.locals }))
            (subst (λ ts. Sim host R (HasResult R x fine.function.result)
            (result_place R x fine.function.result next lower calls pending) m (15 + c)
            (at x (x.places f) (pushed_all a.values (pushed (start_parts ts) (lower ++ K.under)))
            (next ∷ calls) pending K.machine) (λ v. 12 + c) (caller f a.values r)) result_is
            (calls_run f fine.function fine.is a.values types r (omega (arith, left, le)) (globals_of K) lower next calls pending (15 + c) (12 + c) (omega arith)))
            (λ v u g less.
            let M = with_frame K g.1 in
            let back_is : pushed v (lower ++ g.1.under) ≡ pushed v temps ++ (K.frame ++ (between ++ g.1.under)) =
            ap (pushed v) (sym (above_globals temps K.frame between g.1.under)) ∙ sym (pushed_over v temps (K.frame ++ (between ++ g.1.under))) in (
              (g.0 ∙ result_is, M),
              subst (λ z. Took host u.left (12 + c) (at x next (pushed v (lower ++ g.1.under)) calls pending g.1.machine) u.left (8 + c) (at x next z calls pending g.1.machine)) back_is
                  (took_less host (8 + c) (omega arith) (took_none host u.left (12 + c) (at x next (pushed v (lower ++ g.1.under)) calls pending g.1.machine))),
            )),
      ))

  pub unit_call_runs : (t : Ty) (f : ℕ) (es : TypedExprs) (ks : List Const) → CapturesCarry host R x tables execute functions → CallsRun host R x functions caller most
      → ((g : ℕ) (fn : Function) → slice_get functions g ≡ Some fn
      → AllByRecursion IsCell (cell_types x.layout.structs fn.result))
      → EachRuns host R tested x listed tables execute functions caller most es
      → Runs (call t (InUnit f) es ks)
  unit_call_runs t f es ks captures calls_run results each scope size n depth place c p K temps between calls pending fine stands deep le held =
      let ts = cell_types x.layout.structs t in
      let wide = length ts in
      let call_fine = fine.0 in
      let all_cells = subst (λ (u : Ty). AllByRecursion IsCell (cell_types x.layout.structs u)) call_fine.result (results f call_fine.function call_fine.is) in
      let within = depth + wide + length ks in
      let first = started ts in
      let middle_lines = constants ks ++ emit_all x.layout n within es in
      let last = JumpTo Jsr f ∷ [] in
      let regroup : first ++ (constants ks ++ (emit_all x.layout n within es ++ last))
      ≡ first ++ (middle_lines ++ last) = ap (λ z. first ++ z)
      (sym (append_assoc (constants ks) (emit_all x.layout n within es) last)) in
      let lines = subst (LinesStand x.code x.places place) regroup stands in
      let b = both_stand x.code x.places place first (middle_lines ++ last) lines in
      let one = place + lines_size first in
      let d = both_stand x.code x.places one middle_lines last b.1 in
      let two = one + lines_size middle_lines in
      let next = place + lines_size (first ++ (constants ks ++ (emit_all x.layout n within es ++ last))) in
      let ending : two + 6 ≡ next = let h = sizes first (middle_lines ++ last) in let k = sizes middle_lines last in let j = ap lines_size regroup in omega (arith, h, k, j) in
      let B = HoldsValue R x scope size t in
      let there = value_place R x scope size t next temps between calls pending in
      let none = no_action es call_fine.values in
      sim_bind host R (HasParts host R x listed tables execute functions caller most t scope size ts)
      (parts_place host R x listed tables execute functions caller most t scope size ts one temps between calls pending) B there
      p.left c (spot_at R x place temps between calls pending K) (λ v. c + one_of wide) (value_credits c) (made ts p)
      (λ parts q. bind (arguments_of host R tested x listed tables execute functions caller most scope es ks q)
      (λ a r. unit_called caller f a r))
      (made_runs host R x listed tables execute functions caller most t ts all_cells scope size place c p K temps between calls pending b.0)
      (λ v q h less.
      let long : length v ≡ wide = sym (length-map v type_of_value) ∙ ap length h.1 in
      let size_is = pushed_length v temps in
      let H = HasCall host R tested x listed tables execute functions caller most scope size es ks pending in
      subst (λ (u : List Value). Sim host R B there q.left (c + one_of wide)
      (spot_at R x one (pushed u temps) between calls pending h.2) (value_credits c)
      (bind (arguments_of host R tested x listed tables execute functions caller most scope es ks q)
      (λ a r. unit_called caller f a r))) (sym h.0)
      (sim_bind host R H (call_place host R tested x listed tables execute functions caller most scope size es ks two (pushed (start_parts ts) temps) between calls pending) B there
      q.left (c + one_of wide) (spot_at R x one (pushed (start_parts ts) temps) between calls pending h.2)
      (λ a. spare es (spare_defaults ks (c + one_of wide))) (value_credits c)
      (arguments_of host R tested x listed tables execute functions caller most scope es ks q)
      (λ a r. unit_called caller f a r)
      (call_arguments_run host R tested x listed tables execute functions caller most es ks captures each scope size n within one (c + one_of wide) q h.2 (pushed (start_parts ts) temps)
      between calls pending fine.1 d.0
      (let starts_long = ap length h.0 in let z = pushed_length (start_parts ts) temps in omega
      (arith, long, starts_long, z, deep)) (omega (arith, less, le)) (held_pushed (start_parts ts) temps held)
      (omega (arith, none)))
      (λ a r g fewer. sim_less host R B there r.left c (spare es (spare_defaults ks (c + one_of wide)))
      (spot_at R x two (pushed_all a.values (pushed (start_parts ts) temps)) between calls g.now g.kept)
      (value_credits c) (unit_called caller f a r) (let z = spare_more es ks (c + one_of wide) in omega (arith, z))
      (jsr_runs t f es ks calls_run call_fine scope size two next c a r temps between calls pending g _ d.1.0.begins d.1.0.leads ending (omega (arith, less, fewer, le))))))
