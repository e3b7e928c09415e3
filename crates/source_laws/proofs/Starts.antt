-- The start of a script does what it means: with globals, which are made first, and without any.
use Rattle.std.proofs.Common.{arith, ◌≡◌, ◌≤◌, ◌<◌, ◌+◌, ◌-◌, ℕ, zero, suc, List, [], ◌∷◌, ◌++◌, length, Option, Some, Bool, true, false, sym, subst, ◌∙◌, ap, refl}
use Rattle.std.specs.Prelude.{slice_get}
use Rattle.std.proofs.lemmas.List.{append-nil}
use Rattle.nwq_value.specs.declared.value.Ty.{Ty}
use Rattle.nwq_value.specs.declared.value.Ty.TheVariants.{Void, Int}
use Rattle.nwq_value.specs.declared.value.Value.{Value}
use Rattle.nwq_value.specs.Engine.{EngineTable}
use Rattle.ncs_code.specs.Plain as ops
use Rattle.ncs_code.specs.File.{op_at}
use Rattle.ncs_emit.specs.Labelled.{Line, Instruction, lines_size}
use Rattle.ncs_emit.specs.Standing.{LinesStand}
use Rattle.typing_rules.specs.declared.places.EntryPoint.{EntryPoint}
use Rattle.typing_rules.specs.declared.places.EntryPoint.TheVariants.{Main, Conditional}
use Rattle.typing_rules.specs.Typed.{TypedName}
use Rattle.typing_rules.specs.Cells.{cell_types}
use Rattle.saved_state.specs.declared.cell.Cell.{Cell}
use Rattle.saved_state.specs.declared.cell.Cell.TheVariants.{Value as Holds, Base}
use Rattle.saved_state.specs.declared.saved.Saved.{Saved}
use Rattle.emission_rules.specs.Laws.{CodeStands}
use Rattle.emission_rules.specs.Layout.{names_cells, layout_of}
use Rattle.emission_rules.specs.Operations.{dropped}
use Rattle.emission_rules.specs.Statements.{emit_names}
use Rattle.emission_rules.specs.Units.{body_count, start_labels, has_globals, emit_start, emit_functions, entry_call}
use Rattle.world_rules.specs.Pure.{CellLookup}
use Rattle.world_rules.specs.World.{World}
use Rattle.world_rules.specs.Alike.{Alike}
use Rattle.machine_rules.specs.Frames.{Frame}
use Rattle.machine_rules.specs.Act.{act, Moves}
use Rattle.machine_rules.specs.Machine.{Goes, step}
use Rattle.machine_rules.specs.Laws.{EqualityIsTested}
use Rattle.source_meaning.specs.Values.{start_part, start_parts}
use Rattle.source_meaning.specs.Evaluation.{no_variables, Deferred, Progress, Outcome, Gives, bind, spend, spend_of}
use Rattle.source_meaning.specs.Expressions.{Running, Caller, made}
use Rattle.source_meaning.specs.Statements.{declared, after_names}
use Rattle.source_meaning.specs.Scripts.{Function, Listed, Setting, Starter, functions, calls, calling, no_functions, without_variables, globals_made, global_names, entry_called, executing, running}
use Rattle.source_meaning.specs.Scripts.{unit_started, listed_started}
use Rattle.source_laws.specs.Ledger.{Machine, MachineHost, Took, Sim}
use Rattle.source_laws.specs.Kept.{pushed, AreHeld, Site, IsListed, at, Vars, Kept, spot_at}
use Rattle.source_laws.specs.Carries.{Carries, unit_site}
use Rattle.source_laws.specs.FineStatements.{AreFineNames}
use Rattle.source_laws.specs.Simulation.{Executor, running_at}
use Rattle.source_laws.specs.Calling.{pushed_all, EngineRuns, CapturesCarry, ExecutesRun}
use Rattle.source_laws.specs.StatementsRun.{one_of}
use Rattle.source_laws.specs.FunctionsRun.{KeepsGlobals, HasResult, parameter_types, result_place, CallsRun, IsPlaced}
use Rattle.source_laws.specs.Starts.{making, return_place, EndsAlike, end_place, StartsRun, MainsRun, ConditionsRun}
use Rattle.source_laws.proofs.Ledger.{took_none, took_cost, took_then, took_less, sim_after, sim_bind, sim_paid, sim_map}
use Rattle.source_laws.proofs.Steps.{both_stand, acted, dropped_goes}
use Rattle.source_laws.proofs.Statements.{lower_kept, lower_goes, goes_back, start_goes}
use Rattle.source_laws.proofs.Captures.{captures_are_carried}
use Rattle.source_laws.proofs.UnitCalls.{call_goes}
use Rattle.source_laws.proofs.Functions.{functions_run}
use Rattle.source_laws.proofs.Globals.{globals_code, globals_cells, names_seen, AreMade, made_place, names_made, bottom, fine_more, names_more, empty_globals}
use Rattle.source_laws.proofs.BareStarts.{no_cells, no_parts, no_cell, one_long, BareRuns, bare_mains, bare_conditions}

-- ---- the entry function

abbrev entry_function : EntryPoint → ℕ
entry_function (Main f) = f
entry_function (Conditional f) = f

abbrev entry_type : EntryPoint → Ty
entry_type (Main f) = Void
entry_type (Conditional f) = Int

-- a condition's result is made, which is a step, before the function is called
after_room : (caller : Caller) (f left : ℕ) (p : Progress)
    → bind (spend_of left p (λ q. bind (made [] q) (λ parts r. Gives (start_part Int ∷ parts) r))) (λ parts q. caller f [] q) ≡ spend_of left p (λ q. caller f [] q)
unfolding bind
after_room caller f zero p = refl
after_room caller f (suc left) p = refl

room_first : (caller : Caller) (f : ℕ) (p : Progress) → entry_called caller (Conditional f) p ≡ spend p (λ q. caller f [] q)
unfolding spend
room_first caller f p = after_room caller f p.left p

module _ (host : MachineHost) (R : Saved → Deferred → Type 0) (tested : EqualityIsTested) (x : Site) (listed : IsListed host x)
    (tables : CellLookup) (execute : Executor) (fs : List Function) (caller : Caller) (most : ℕ) (calls_run : CallsRun host R x fs caller most) where
  -- the globals are kept, and other cells lie over them
  abbrev pub Keeps : List Value → Progress → Type 0
  Keeps v q = KeepsGlobals R x q

  abbrev pub kept_place : ℕ → List Cell → List ℕ → (v : List Value) (q : Progress) → Keeps v q → Machine
  kept_place next lower waiting v q K = at x next (lower ++ K.under) waiting [] K.machine

  -- The call of the entry function goes on behind itself, and leaves nothing.
  EntryDoes : EntryPoint → Type 0
  EntryDoes e =
      (fn : Function) → slice_get fs (entry_function e) ≡ Some fn → fn.parameters ≡ [] → fn.result ≡ entry_type e
      → (place c : ℕ) (p : Progress) → p.left < most → (K : KeepsGlobals R x p) (lower : List Cell) (waiting : List ℕ) → LinesStand x.code x.places place (entry_call e)
      → Sim host R Keeps (kept_place (place + lines_size (entry_call e)) lower waiting) p.left (c + 5) (at x place (lower ++ K.under) waiting [] K.machine) (λ v. c) (entry_called caller e p)

  main_does : (f : ℕ) → EntryDoes (Main f)
  unfolding EntryDoes
  main_does f fn is parameters result place c p less K lower waiting lines =
      let next = place + lines_size (entry_call (Main f)) in
      let ending : place + 6 ≡ next = omega arith in
      let cells = lower ++ K.under in
      let s = at x place cells waiting [] K.machine in
      let s1 = at x (x.places f) cells ((place + 6) ∷ waiting) [] K.machine in
      let goes = call_goes host R tested x listed tables execute fs caller most place (x.places f) _ cells waiting [] K.machine lines.0.begins lines.0.leads in
      let body = calls_run f fn is [] (ap (parameter_types x) (sym parameters)) p less K lower (place + 6) waiting [] (c + 4) (c + 1) (omega arith) in
      let void_body = subst (λ (t : Ty). Sim host R (HasResult R x t) (result_place R x t (place + 6) lower waiting []) p.left (c + 4)
      (at x (x.places f) (pushed_all [] (pushed (start_parts (cell_types x.layout.structs t)) cells)) ((place + 6) ∷ waiting) [] K.machine) (λ v. c + 1) (caller f [] p)) result body in
      sim_after host R Keeps (kept_place next lower waiting) (λ v. c) (caller f [] p) (took_cost host p.left (c + 5) (c + 4) s s1 (omega arith) goes)
      (sim_map host R (HasResult R x Void) (result_place R x Void (place + 6) lower waiting []) Keeps (kept_place next lower waiting) p.left (c + 4) s1 (λ v. c + 1) (λ v. c) (caller f [] p)
      void_body
      (λ v q h.
      let t1 = result_place R x Void (place + 6) lower waiting [] v q h in
      let cells_are : pushed v (lower ++ h.1.under) ≡ lower ++ h.1.under = ap (λ u. pushed u (lower ++ h.1.under)) (no_parts v h.0) in (
        h.1,
        subst (λ (k : ℕ). Took host q.left (c + 1) t1 q.left c (at x k (lower ++ h.1.under) waiting [] h.1.machine)) ending
            (subst (λ (z : List Cell). Took host q.left (c + 1) t1 q.left c (at x (place + 6) z waiting [] h.1.machine)) cells_are
            (took_less host c (omega arith) (took_none host q.left (c + 1) t1))),
      )))

  condition_does : (f : ℕ) → EntryDoes (Conditional f)
  unfolding EntryDoes
  condition_does f fn is parameters result place c p less K lower waiting lines =
      let next = place + lines_size (entry_call (Conditional f)) in
      let ending : place + 2 + 6 + 6 ≡ next = omega arith in
      let cells = lower ++ K.under in
      let room = Holds (start_part Int) ∷ cells in
      let s = at x place cells waiting [] K.machine in
      let s1 = at x (place + 2) room waiting [] K.machine in
      let s2 = at x (x.places f) room ((place + 2 + 6) ∷ waiting) [] K.machine in
      let there = kept_place next lower waiting in
      let reserves = start_goes host R x listed tables execute fs caller most Void place Int cells waiting [] K.machine tt lines.0 in
      let goes = call_goes host R tested x listed tables execute fs caller most (place + 2) (x.places f) _ room waiting [] K.machine lines.1.0.begins lines.1.0.leads in
      subst (λ o. Sim host R Keeps there p.left (c + 5) s (λ v. c) o) (sym (room_first caller f p))
      (sim_paid host R Keeps there (c + 5) s (λ v. c) p (λ q. caller f [] q) K.alike
      (λ m left.
      let q : Progress = record p { left = m } in
      let body = calls_run f fn is [] (ap (parameter_types x) (sym parameters)) q (omega (arith, left, less)) K lower (place + 2 + 6) waiting [] (c + 4) (c + 1) (omega arith) in
      let int_body = subst (λ (t : Ty). Sim host R (HasResult R x t) (result_place R x t (place + 2 + 6) lower waiting []) m (c + 4)
      (at x (x.places f) (pushed_all [] (pushed (start_parts (cell_types x.layout.structs t)) cells)) ((place + 2 + 6) ∷ waiting) [] K.machine) (λ v. c + 1) (caller f [] q)) result body in (
        s1,
        reserves,
        sim_after host R Keeps there (λ v. c) (caller f [] q) (took_cost host m (15 + (c + 5)) (c + 4) s1 s2 (omega arith) goes)
            (sim_map host R (HasResult R x Int) (result_place R x Int (place + 2 + 6) lower waiting []) Keeps there m (c + 4) s2 (λ v. c + 1) (λ v. c) (caller f [] q)
            int_body
            (λ v r h.
            let t1 = result_place R x Int (place + 2 + 6) lower waiting [] v r h in
            let off = dropped_goes host x listed (place + 2 + 6) (place + 2 + 6 + 6) 1 v (lower ++ h.1.under) waiting [] h.1.machine lines.1.1.0 refl (one_long v h.0) in (
              h.1,
              subst (λ (k : ℕ). Took host r.left (c + 1) t1 r.left c (at x k (lower ++ h.1.under) waiting [] h.1.machine)) ending
                  (took_cost host r.left (c + 1) c t1 (at x (place + 2 + 6 + 6) (lower ++ h.1.under) waiting [] h.1.machine) (omega arith) off),
            ))),
      )))

  entry_does : (e : EntryPoint) → EntryDoes e
  entry_does (Main f) = main_does f
  entry_does (Conditional f) = condition_does f

  pub entry_runs : (e : EntryPoint) (fn : Function) → slice_get fs (entry_function e) ≡ Some fn → fn.parameters ≡ [] → fn.result ≡ entry_type e
      → (place c : ℕ) (p : Progress) → p.left < most → (K : KeepsGlobals R x p) (lower : List Cell) (waiting : List ℕ) → LinesStand x.code x.places place (entry_call e)
      → Sim host R Keeps (kept_place (place + lines_size (entry_call e)) lower waiting) p.left (c + 5) (at x place (lower ++ K.under) waiting [] K.machine) (λ v. c) (entry_called caller e p)
  unfolding EntryDoes
  entry_runs e = entry_does e

-- ---- the base cell, and the globals at the end

few_ones : (n : ℕ) → one_of n ≤ 1
few_ones zero = omega arith
few_ones (suc n) = omega arith

module _ (host : MachineHost) (R : Saved → Deferred → Type 0) (x : Site) (listed : IsListed host x) where
  pub low_listed : (gs : List ℕ) → IsListed host (bottom x gs)
  low_listed gs = record { name = listed.name; is = listed.is }

  -- SAVEBP: what was made are the globals from now on
  saved_goes : (place : ℕ) (cells : List Cell) (calls : List ℕ) (pending : List Saved) (world : World Saved) → op_at x.code place ≡ Some ops.SaveBp → length cells ≡ x.bp
      → step host (at (making x) place cells calls pending world) ≡ Some (Goes (at x (place + 2) (Base 0 ∷ cells) calls pending world))
  unfolding act
  saved_goes place cells calls pending world begins size =
      acted host (making x) (low_listed []) place ops.SaveBp cells calls pending world
      (Moves (at (record x { bp = length cells }) (place + 2)
      (Base 0 ∷ cells) calls pending world).running) begins refl
      ∙ ap (λ (b : ℕ). Some (Goes (at (record x { bp = b }) (place + 2) (Base 0 ∷ cells) calls pending world))) size

  restored_goes : (place : ℕ) (cells : List Cell) (calls : List ℕ) (pending : List Saved) (world : World Saved) → op_at x.code place ≡ Some ops.RestoreBp
      → step host (at x place (Base 0 ∷ cells) calls pending world) ≡ Some (Goes (at (making x) (place + 2) cells calls pending world))
  unfolding act
  restored_goes place cells calls pending world begins =
      acted host x listed place ops.RestoreBp (Base 0 ∷ cells) calls pending world (Moves (at (making x) (place + 2) cells calls pending world).running) begins refl

  -- the globals are taken off, and the first call is over
  comes_down : (tables : CellLookup) (execute : Executor) (k c place back count : ℕ) (cells : List Cell) (w : World Saved) (v : World Deferred) → AreHeld cells → length cells ≡ count → Alike R w v
      → LinesStand x.code x.places place (dropped count ++ Instruction ops.Retn ∷ []) → Took host k (c + 2) (at (making x) place cells (back ∷ []) [] w) k c (at (making x) back [] [] [] w)
  comes_down tables execute k c place back count cells w v held size alike lines =
      let y = making x in
      let low = low_listed [] in
      let K : Kept R y [] count no_variables no_variables v = record {
        under = [];
        frame = cells;
        machine = w;
        under_size = refl;
        frame_size = size;
        under_held = tt;
        frame_held = held;
        global_values = record { value = λ n i. absurd i; typed = λ n i. absurd i; apart = λ m n i j. absurd i };
        local_values = record { value = λ n i. absurd i; typed = λ n i. absurd i; apart = λ m n i j. absurd i };
        alike = alike;
      } in
      let b = both_stand x.code x.places place (dropped count) (Instruction ops.Retn ∷ []) lines in
      let next = place + lines_size (dropped count) in
      let none : 0 ≤ count = omega arith in
      let all : count - 0 ≡ count = omega arith in
      let L = lower_kept host R y low tables execute [] no_functions 0 Void K [] 0 none (λ n i. absurd i) (λ n i. absurd i) in
      let first = lower_goes host R y low tables execute [] no_functions 0 Void K [] 0 none (λ n i. absurd i) (λ n i. absurd i) k (c + 1) place [] (back ∷ []) [] count all b.0 in
      let few = few_ones count in
      let s = spot_at R y place [] [] (back ∷ []) [] K in
      let s1 = spot_at R y next [] [] (back ∷ []) [] L in
      let s2 = at y back (L.frame ++ []) [] [] w in
      let returns = goes_back host R y low tables execute [] no_functions 0 Void next back (L.frame ++ []) [] [] w b.1.0 in
      let bare : L.frame ++ [] ≡ [] = append-nil L.frame ∙ no_cell L.frame L.frame_size in
      let whole : cells ++ [] ≡ cells = append-nil cells in
      subst (λ (z : List Cell). Took host k (c + 2) (at y place z (back ∷ []) [] w) k c (at y back [] [] [] w)) whole
      (subst (λ (z : List Cell). Took host k (c + 2) s k c (at y back z [] [] w)) bare
      (took_then host (took_less host (c + 1 + one_of count) (omega (arith, few)) (took_none host k (c + 2) s))
      (took_then host first (took_cost host k (c + 1) c s1 s2 (omega arith) returns))))

-- ---- a script with globals

module _ (tested : EqualityIsTested) (stand : CodeStands) (s : Setting) (host : MachineHost) (start : Option Starter) (script self : ℕ) (waiting : List Frame) (l : Listed)
    (same : host.table ≡ s.table) (is : slice_get s.scripts script ≡ Some l) (listed : IsListed host (unit_site script l.unit self waiting))
    (engine_runs : EngineRuns host (Carries s) s.tables) (executes : (most : ℕ) → ExecutesRun host (Carries s) (unit_site script l.unit self waiting) (executing s start self) most)
    (placed : (f : ℕ) (fn : Function) → slice_get (functions l.unit.items) f ≡ Some fn → IsPlaced host.table (functions l.unit.items) (unit_site script l.unit self waiting) f fn) where
  abbrev x : Site
  x = unit_site script l.unit self waiting

  abbrev fs : List Function
  fs = functions l.unit.items

  abbrev here : Running
  here = running_at host s.tables (executing s start self) x

  abbrev names : List TypedName
  names = global_names l.unit.items

  -- what was made are the globals
  abbrev made_kept : {gs : List ℕ} {globals locals : ℕ → List Value} {world : World Deferred}
      → (K : Kept (Carries s) (bottom x gs) (after_names names [])
      (0 + names_cells x.layout.structs names) globals locals world)
      → length K.frame ≡ x.bp → Kept (Carries s) x [] 0 locals no_variables world
  made_kept K size = record {
    under = K.frame;
    frame = [];
    machine = K.machine;
    under_size = size;
    frame_size = refl;
    under_held = K.frame_held;
    frame_held = tt;
    global_values = record {
      value = λ n i. K.local_values.value n (names_seen names [] n i);
      typed = λ n i. K.local_values.typed n (names_seen names [] n i);
      apart = λ m n i j. K.local_values.apart m n (names_seen names [] m i) (names_seen names [] n j);
    };
    local_values = record { value = λ n i. absurd i; typed = λ n i. absurd i; apart = λ m n i j. absurd i };
    alike = K.alike;
  }

  globals_start : (gs : List ℕ) → AreFineNames host.table [] (bottom x gs) Void 0 [] names → Vars (bottom x gs) gs [] no_variables
      → CapturesCarry host (Carries s) (bottom x gs) s.tables (executing s start self) [] → ((most : ℕ) → ExecutesRun host (Carries s) (bottom x gs) (executing s start self) most)
      → (e : EntryPoint) → l.unit.entry ≡ e → (fn : Function) → slice_get fs (entry_function e) ≡ Some fn → fn.parameters ≡ [] → fn.result ≡ entry_type e
      → has_globals l.unit.items ≡ true → (p : Progress) (w : World Saved) → Alike (Carries s) w p.world
      → Sim host (Carries s) (EndsAlike (Carries s)) (end_place (Carries s) (making x) 19) p.left 0 (at (making x) 13 [] [] [] w) (λ v. 1) (listed_started s (executing s start) script self (Some l) p)
  globals_start gs fine bare captures low_executes e begins fn found parameters result some p w alike =
      let u = l.unit in
      let R = Carries s in
      let execute = executing s start self in
      let y = bottom x gs in
      let low = low_listed host R x listed gs in
      let own = running s execute script self u in
      let same_running : here ≡ own = ap (λ (t : EngineTable). record here { table = t }) same in
      let lay = layout_of u in
      let n = body_count u.items in
      let front = both_stand x.code x.places 13 (emit_start lay n (has_globals u.items) u.items u.entry) (emit_functions lay (n + start_labels (has_globals u.items) u.items) 0 u.items) (stand u) in
      let lines : LinesStand x.code x.places 13 (emit_start lay n true u.items e) =
      subst (λ (f : EntryPoint). LinesStand x.code x.places 13 (emit_start lay n true u.items f)) begins
      (subst (λ (b : Bool). LinesStand x.code x.places 13 (emit_start lay n b u.items u.entry)) some front.0) in
      let made_lines = emit_names lay (n + 1) 0 names in
      let tail = Instruction ops.RestoreBp ∷ (dropped lay.globals ++ Instruction ops.Retn ∷ []) in
      let rest = Instruction ops.SaveBp ∷ (entry_call e ++ tail) in
      let a = both_stand x.code x.places 21 made_lines rest (subst (λ (t : List Line). LinesStand x.code x.places 21 (t ++ rest)) (globals_code lay (n + 1) 0 u.items) lines.1.1.1) in
      let one = 21 + lines_size made_lines in
      let b = both_stand x.code x.places (one + 2) (entry_call e) tail a.1.1 in
      let two = one + 2 + lines_size (entry_call e) in
      let goes = call_goes host R tested y low s.tables execute fs no_functions 0 13 (x.places n) _ [] [] [] w lines.0.begins lines.0.leads in
      let s1 = at y 21 [] (19 ∷ []) [] w in
      let begun = goes ∙ ap (λ (k : ℕ). Some (Goes (at y k [] (19 ∷ []) [] w))) lines.1.1.0 in
      let B = EndsAlike R in
      let there = end_place R (making x) 19 in
      let whole : Running → EntryPoint → Progress → Outcome (List Value) = λ c f q.
      bind (bind (declared c no_functions [] names (without_variables q)) (λ flow r. entry_called (calling c fs r) f (globals_made r))) (λ parts r. Gives [] r) in
      sim_paid host R B there 0 (at y 13 [] [] [] w) (λ v. 1) p (λ q. bind (unit_started own u q) (λ parts r. Gives [] r)) alike
      (λ m left.
      let q : Progress = record p { left = m } in
      let q0 = without_variables q in
      let K0 : Kept R y [] 0 no_variables no_variables q.world = record {
        under = [];
        frame = [];
        machine = w;
        under_size = refl;
        frame_size = refl;
        under_held = tt;
        frame_held = tt;
        global_values = bare;
        local_values = record { value = λ k i. absurd i; typed = λ k i. absurd i; apart = λ j k i h. absurd i };
        alike = alike;
      } in (
        s1,
        begun,
        subst (λ (c : Running). Sim host R B there m 15 s1 (λ v. 1) (whole c u.entry q)) same_running
            (subst (λ (f : EntryPoint). Sim host R B there m 15 s1 (λ v. 1) (whole here f q)) (sym begins)
            (sim_bind host R (λ v r. KeepsGlobals R x r) (λ v r K. at x two (Base 0 ∷ K.under) (19 ∷ []) [] K.machine) B there m 15 s1 (λ v. 9) (λ v. 1)
            (bind (declared here no_functions [] names q0) (λ flow r. entry_called (calling here fs r) e (globals_made r))) (λ parts r. Gives [] r)
            (sim_bind host R (AreMade host R tested y low s.tables execute m engine_runs captures
            (low_executes m) names) (made_place host R tested y low s.tables execute m engine_runs captures
            (low_executes m) names one 19)
            (λ v r. KeepsGlobals R x r) (λ v r K. at x two (Base 0 ∷ K.under) (19 ∷ []) [] K.machine) m 15 s1 (λ f. 15) (λ v. 9)
            (declared here no_functions [] names q0) (λ flow r. entry_called (calling here fs r) e (globals_made r))
            (names_made host R tested y low s.tables execute m engine_runs captures (low_executes m) names (n + 1) 21 19 15 q0 K0 fine a.0 (omega arith))
            (λ flow r K less.
            let size = K.frame_size in
            let cells_count = globals_cells lay.structs u.items in
            let size_is : length K.frame ≡ x.bp = omega (arith, size, cells_count) in
            let none = no_cell K.under K.under_size in
            let frame_is : K.frame ++ K.under ≡ K.frame = ap (λ t. K.frame ++ t) none ∙ append-nil K.frame in
            let M = made_kept {gs = gs} K size_is in
            let first = ap (λ t. step host (at (making x) one t (19 ∷ []) [] K.machine)) frame_is ∙ saved_goes host R x listed one K.frame (19 ∷ []) [] K.machine a.1.0 size_is in
            sim_after host R (λ v t. KeepsGlobals R x t) (λ v t N. at x two (Base 0 ∷ N.under) (19 ∷ []) [] N.machine) (λ v. 9) (entry_called (calling here fs r) e (globals_made r))
            (took_cost host r.left 15 14 (at y one (K.frame ++ K.under) (19 ∷ []) [] K.machine) (at x (one + 2) (Base 0 ∷ K.frame) (19 ∷ []) [] K.machine) (omega arith) first)
            (entry_runs host R tested x listed s.tables execute fs (calling here fs r) (suc r.left)
            (functions_run tested s host x s.tables execute fs listed engine_runs (captures_are_carried s host s.tables execute script self waiting l same is) executes placed (suc r.left)).0
            e fn found parameters result (one + 2) 9 (globals_made r) (omega arith) M (Base 0 ∷ []) (19 ∷ []) b.0)))
            (λ v r K less.
            let restores = restored_goes host R x listed two K.under (19 ∷ []) [] K.machine b.1.0 in
            let s2 = at x two (Base 0 ∷ K.under) (19 ∷ []) [] K.machine in
            let s3 = at (making x) (two + 2) K.under (19 ∷ []) [] K.machine in (
              (K.machine, K.alike),
              took_then host (took_cost host r.left 9 8 s2 s3 (omega arith) restores)
                  (took_less host 1 (omega arith) (comes_down host R x listed s.tables execute r.left 6 (two + 2) 19 lay.globals K.under K.machine r.world K.under_held K.under_size K.alike b.1.1)),
            )))),
      ))

  -- whether there is a cell among them or not
  pub every_globals_start : AreFineNames host.table [] (making x) Void 0 [] names → ((most : ℕ) → ExecutesRun host (Carries s) (making x) (executing s start self) most)
      → (e : EntryPoint) → l.unit.entry ≡ e → (fn : Function) → slice_get fs (entry_function e) ≡ Some fn → fn.parameters ≡ [] → fn.result ≡ entry_type e
      → has_globals l.unit.items ≡ true → (p : Progress) (w : World Saved) → Alike (Carries s) w p.world
      → Sim host (Carries s) (EndsAlike (Carries s)) (end_place (Carries s) (making x) 19) p.left 0 (at (making x) 13 [] [] [] w) (λ v. 1) (listed_started s (executing s start) script self (Some l) p)
  every_globals_start fine low_executes = by_size x.bp refl
    where
      by_size : (size : ℕ) → x.bp ≡ size → (e : EntryPoint) → l.unit.entry ≡ e → (fn : Function) → slice_get fs (entry_function e) ≡ Some fn → fn.parameters ≡ [] → fn.result ≡ entry_type e
          → has_globals l.unit.items ≡ true → (p : Progress) (w : World Saved) → Alike (Carries s) w p.world
          → Sim host (Carries s) (EndsAlike (Carries s)) (end_place (Carries s) (making x) 19) p.left 0
          (at (making x) 13 [] [] [] w) (λ v. 1) (listed_started s (executing s start) script self (Some l) p)
      by_size zero none =
          let low_fine = names_more x host.table [] [] x.globals (λ n i. absurd i) names 0 [] fine in
          let count = globals_cells x.layout.structs l.unit.items in
          let full = subst (λ (b : ℕ). CapturesCarry host (Carries s) (record x { bp = b }) s.tables (executing s start self) fs) none
          (captures_are_carried s host s.tables (executing s start self) script self waiting l same is) in
          globals_start x.globals low_fine (empty_globals host.table (bottom x x.globals) names low_fine (omega (arith, none, count)))
          (λ scope size n depth place d q K temps between d_fine. full scope size n depth place d q K temps between (fine_more x host.table fs x.globals x.globals (λ k i. i) scope d d_fine))
          (λ most. subst (λ (b : ℕ). ExecutesRun host (Carries s) (record x { bp = b }) (executing s start self) most) none (executes most))
      by_size (suc size) some =
          globals_start [] fine (record { value = λ n i. absurd i; typed = λ n i. absurd i; apart = λ m n i j. absurd i })
          (λ scope size' n depth place d q K temps between d_fine stands deep held full. absurd (omega (arith, some, full)))
          low_executes

-- ---- every start

module _ (begin : ℕ → EntryPoint) (t : Ty) (last : ℕ) (of_function : (f : ℕ) → entry_function (begin f) ≡ f) (of_type : (f : ℕ) → entry_type (begin f) ≡ t) (without : BareRuns begin t last) where
  any_start : EqualityIsTested → CodeStands → StartsRun begin t last
  any_start tested stand s host start script self waiting l p w same is listed engine_runs executes low_executes ready alike = by_globals (has_globals l.unit.items) refl
    where
      by_globals : (b : Bool) → has_globals l.unit.items ≡ b
          → Sim host (Carries s) (EndsAlike (Carries s)) (end_place (Carries s) (making (unit_site script l.unit self waiting)) (return_place b last)) p.left 0
          (at (making (unit_site script l.unit self waiting)) 13 [] [] [] w) (λ v. 1) (listed_started s (executing s start) script self (Some l) p)
      by_globals true some =
          every_globals_start tested stand s host start script self waiting l same is listed engine_runs executes ready.placed ready.made low_executes
          (begin ready.entry) ready.begins ready.main
          (ap (slice_get (functions l.unit.items)) (of_function ready.entry) ∙ ready.is) ready.parameters
          (ready.result ∙ sym (of_type ready.entry)) some p w alike
      by_globals false none =
          let x = unit_site script l.unit self waiting in
          subst (λ (b : ℕ). Sim host (Carries s) (EndsAlike (Carries s)) (end_place (Carries s) (record x { bp = b }) last) p.left 0
          (at (record x { bp = b }) 13 [] [] [] w) (λ v. 1) (listed_started s (executing s start) script self (Some l) p))
          (no_cells (layout_of l.unit).structs l.unit.items none)
          (without s host start script self waiting l p w same is listed engine_runs executes ready none alike)

pub mains_run : EqualityIsTested → CodeStands → MainsRun
mains_run tested stand = any_start Main Void 19 (λ f. refl) (λ f. refl) (bare_mains tested stand) tested stand

pub conditions_run : EqualityIsTested → CodeStands → ConditionsRun
conditions_run tested stand = any_start Conditional Int 27 (λ f. refl) (λ f. refl) (bare_conditions tested stand) tested stand
