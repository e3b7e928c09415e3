-- The start of a script without globals does what it means.
use Rattle.std.proofs.Common.{arith, ◌≡◌, ◌≤◌, ◌+◌, ℕ, suc, List, [], ◌∷◌, ◌++◌, length, map, Option, Some, Bool, false, sym, subst, ◌∙◌, ap, refl}
use Rattle.std.specs.Prelude.{slice_get}
use Rattle.nss_tree.specs.Units.{structure, constant, global, function}
use Rattle.nwq_value.specs.declared.value.Ty.{Ty}
use Rattle.nwq_value.specs.declared.value.Ty.TheVariants.{Void, Int}
use Rattle.nwq_value.specs.declared.value.Value.{Value}
use Rattle.nwq_value.specs.Engine.{EngineTable}
use Rattle.nwq_value.specs.Values.{type_of as type_of_value}
use Rattle.std.proofs.lemmas.List.{length-map}
use Rattle.ncs_code.specs.Plain as ops
use Rattle.ncs_emit.specs.declared.jump.Jump.TheVariants.{Jsr}
use Rattle.ncs_emit.specs.Labelled.{Instruction, JumpTo, place_of_label, program}
use Rattle.ncs_emit.specs.Standing.{LinesStand}
use Rattle.typing_rules.specs.declared.places.EntryPoint.{EntryPoint}
use Rattle.typing_rules.specs.declared.places.EntryPoint.TheVariants.{Main, Conditional}
use Rattle.typing_rules.specs.Numbers.{number_of}
use Rattle.typing_rules.specs.Typed.{TypedItem, TypedName, TypedUnit}
use Rattle.typing_rules.specs.Cells.{Structs, cell_types}
use Rattle.saved_state.specs.declared.cell.Cell.{Cell}
use Rattle.saved_state.specs.declared.cell.Cell.TheVariants.{Value as Holds}
use Rattle.saved_state.specs.declared.saved.Saved.{Saved}
use Rattle.emission_rules.specs.Laws.{CodeStands}
use Rattle.emission_rules.specs.Layout.{global_cells, layout_of}
use Rattle.emission_rules.specs.Operations.{beneath, cell_kind}
use Rattle.emission_rules.specs.Units.{body_count, start_labels, has_globals, emit_start, emit_functions, unit_code}
use Rattle.world_rules.specs.World.{World}
use Rattle.world_rules.specs.Alike.{Alike}
use Rattle.machine_rules.specs.Frames.{Frame}
use Rattle.machine_rules.specs.Cells.{value_types}
use Rattle.machine_rules.specs.Laws.{EqualityIsTested}
use Rattle.source_meaning.specs.Values.{start_part, start_parts}
use Rattle.source_meaning.specs.Evaluation.{Deferred, Progress, Outcome, Gives, bind, spend}
use Rattle.source_meaning.specs.Expressions.{Running, made}
use Rattle.source_meaning.specs.Statements.{declared}
use Rattle.source_meaning.specs.Scripts.{Listed, Setting, Starter, listed_started, functions, calls, calling, no_functions, without_variables, globals_made, global_names, entry_called, executing}
use Rattle.source_meaning.specs.Scripts.{running, unit_started}
use Rattle.source_laws.specs.Ledger.{Machine, MachineHost, Took, Sim}
use Rattle.source_laws.specs.Kept.{pushed, Site, IsListed, at, In}
use Rattle.source_laws.specs.Carries.{Carries, unit_site}
use Rattle.source_laws.specs.Simulation.{running_at}
use Rattle.source_laws.specs.Calling.{pushed_all, EngineRuns, ExecutesRun}
use Rattle.source_laws.specs.FunctionsRun.{KeepsGlobals, HasResult, parameter_types, result_place}
use Rattle.source_laws.specs.Starts.{BeginsWith, EndsAlike, end_place}
use Rattle.source_laws.proofs.Ledger.{took_none, took_cost, sim_bind, sim_paid}
use Rattle.source_laws.proofs.Steps.{both_stand, dropped_goes}
use Rattle.source_laws.proofs.Statements.{start_goes}
use Rattle.source_laws.proofs.Captures.{captures_are_carried}
use Rattle.source_laws.proofs.UnitCalls.{call_goes}
use Rattle.source_laws.proofs.Functions.{functions_run}

-- ---- no globals

no_names : (items : List TypedItem) → has_globals items ≡ false → global_names items ≡ []
no_names [] h = refl
no_names (structure m x ls ∷ items) h = no_names items h
no_names (constant m t x k ∷ items) h = no_names items h
no_names (global m t ds ∷ items) h = absurd cc
no_names (function m t x ps body ∷ items) h = no_names items h

none_more : (n : ℕ) → 0 + n ≡ n
none_more n = omega arith

pub no_cells : (structs : Structs) (items : List TypedItem) → has_globals items ≡ false → global_cells structs items ≡ 0
no_cells structs [] h = refl
no_cells structs (structure m x ls ∷ items) h = none_more (global_cells structs items) ∙ no_cells structs items h
no_cells structs (constant m t x k ∷ items) h = none_more (global_cells structs items) ∙ no_cells structs items h
no_cells structs (global m t ds ∷ items) h = absurd cc
no_cells structs (function m t x ps body ∷ items) h = none_more (global_cells structs items) ∙ no_cells structs items h

nothing_in : (gs : List ℕ) → gs ≡ [] → (n : ℕ) → In n gs → ⊥
nothing_in [] h n i = i
nothing_in (g ∷ gs) h n i = absurd cc

pub no_parts : (v : List Value) → value_types v ≡ [] → v ≡ []
no_parts [] h = refl
no_parts (w ∷ v) h = absurd cc

pub no_cell : (cells : List Cell) → length cells ≡ 0 → cells ≡ []
no_cell [] h = refl
no_cell (c ∷ cells) h = absurd (omega arith)

-- The law for scripts without globals, over their own site.
abbrev pub BareRuns : (ℕ → EntryPoint) → Ty → ℕ → Type 0
BareRuns begin t last =
    (s : Setting) (host : MachineHost) (start : Option Starter) (script self : ℕ) (waiting : List Frame) (l : Listed) (p : Progress) (w : World Saved)
    → host.table ≡ s.table → slice_get s.scripts script ≡ Some l → IsListed host (unit_site script l.unit self waiting)
    → EngineRuns host (Carries s) s.tables → ((most : ℕ) → ExecutesRun host (Carries s) (unit_site script l.unit self waiting) (executing s start self) most)
    → BeginsWith begin t host.table l.unit (unit_site script l.unit self waiting) → has_globals l.unit.items ≡ false → Alike (Carries s) w p.world
    → Sim host (Carries s) (EndsAlike (Carries s)) (end_place (Carries s) (unit_site script l.unit self waiting) last) p.left 0
    (at (unit_site script l.unit self waiting) 13 [] [] [] w) (λ v. 1) (listed_started s (executing s start) script self (Some l) p)

-- ---- the meaning of such a start

plain_started : (c : Running) (u : TypedUnit) (f : ℕ) (p : Progress) → global_names u.items ≡ [] → u.entry ≡ Main f
    → unit_started c u p ≡ calls c (functions u.items) (suc p.left) f [] (globals_made (without_variables p))
unfolding bind
plain_started c u f p names entry =
    ap (λ (ns : List TypedName). bind (declared c no_functions [] ns (without_variables p)) (λ flow q. entry_called (calling c (functions u.items) q) u.entry (globals_made q))) names
    ∙ ap (λ (e : EntryPoint). entry_called (calling c (functions u.items) (without_variables p)) e (globals_made (without_variables p))) entry

module _ (host : MachineHost) (R : Saved → Deferred → Type 0) (x : Site) (none : x.globals ≡ []) (bottom : x.bp ≡ 0) where
  -- nothing stands on the stack, and no variable is in sight
  abbrev kept_bare : (p : Progress) (w : World Saved) → Alike R w p.world → KeepsGlobals R x (globals_made (without_variables p))
  kept_bare p w alike = record {
    under = [];
    frame = [];
    machine = w;
    under_size = sym bottom;
    frame_size = refl;
    under_held = tt;
    frame_held = tt;
    global_values = record {
      value = λ n i. absurd (nothing_in x.globals none n i);
      typed = λ n i. absurd (nothing_in x.globals none n i);
      apart = λ m n i j. absurd (nothing_in x.globals none m i);
    };
    local_values = record { value = λ n i. absurd i; typed = λ n i. absurd i; apart = λ m n i j. absurd i };
    alike = alike;
  }

  cells_over : (v : List Value) (under : List Cell) → v ≡ [] → under ≡ [] → pushed v ([] ++ under) ≡ []
  cells_over v under h k = ap (λ t. pushed t ([] ++ under)) h ∙ k

  -- the entry function has come back with nothing
  come_back : (v : List Value) (p : Progress) (h : HasResult R x Void v p) → result_place R x Void 19 [] [] [] v p h ≡ end_place R x 19 v p (h.1.machine, h.1.alike)
  come_back v p h = ap (λ t. at x 19 t [] [] h.1.machine) (cells_over v h.1.under (no_parts v h.0) (no_cell h.1.under (h.1.under_size ∙ bottom)))

pub bare_mains : EqualityIsTested → CodeStands → BareRuns Main Void 19
bare_mains tested stand s host start script self waiting l p w same is listed engine_runs executes plain bare alike =
    let u = l.unit in
    let x = unit_site script u self waiting in
    let R = Carries s in
    let fs = functions u.items in
    let f = plain.entry in
    let execute = executing s start self in
    let c = running s execute script self u in
    let d = running_at host s.tables execute x in
    let same_running : d ≡ c = ap (λ (t : EngineTable). record d { table = t }) same in
    let names = no_names u.items bare in
    let none : x.globals ≡ [] = ap (map number_of) names in
    let bottom : x.bp ≡ 0 = no_cells (layout_of u).structs u.items bare in
    let code = program (unit_code u).lines in
    let places = place_of_label (unit_code u).lines in
    let next = body_count u.items + start_labels (has_globals u.items) u.items in
    let front = both_stand code places 13 (emit_start (layout_of u) (body_count u.items) (has_globals u.items) u.items u.entry) (emit_functions (layout_of u) next 0 u.items) (stand u) in
    let lines : LinesStand code places 13 (JumpTo Jsr f ∷ Instruction ops.Retn ∷ []) =
    subst (λ (e : EntryPoint). LinesStand code places 13 (emit_start (layout_of u) (body_count u.items) false u.items e)) plain.begins
    (subst (λ (b : Bool). LinesStand code places 13 (emit_start (layout_of u) (body_count u.items) b u.items u.entry)) bare front.0) in
    let goes = call_goes host R tested x listed s.tables execute fs no_functions 0 13 (x.places f) _ [] [] [] w lines.0.begins lines.0.leads in
    let s1 = at x (x.places f) [] (19 ∷ []) [] w in
    let B = EndsAlike R in
    let there = end_place R x 19 in
    sim_paid host R B there 0 (at x 13 [] [] [] w) (λ v. 1) p (λ q. bind (unit_started c u q) (λ parts r. Gives [] r)) alike
    (λ m left.
    let q : Progress = record p { left = m } in
    let K = kept_bare host R x none bottom q w alike in
    let body = (functions_run tested s host x s.tables execute fs listed engine_runs (captures_are_carried s host s.tables execute script self waiting l same is) executes plain.placed (suc m)).0
    f plain.main plain.is [] (ap (parameter_types x) (sym plain.parameters)) (globals_made (without_variables q)) (omega arith) K [] 19 [] [] 15 1 (omega arith) in
    let void_body = subst (λ (t : Ty). Sim host R (HasResult R x t) (result_place R x t 19 [] [] []) m 15
    (at x (x.places f) (pushed_all [] (pushed (start_parts (cell_types x.layout.structs t)) ([] ++ K.under)))
    (19 ∷ []) [] w) (λ v. 1) (calls d fs (suc m) f [] (globals_made (without_variables q)))) plain.result body in
    let own_body = subst (λ (e : Running). Sim host R (HasResult R x Void) (result_place R x Void 19 [] [] []) m 15 s1
    (λ v. 1) (calls e fs (suc m) f [] (globals_made (without_variables q)))) same_running void_body in (
      s1,
      goes,
      subst (λ o. Sim host R B there m 15 s1 (λ v. 1) (bind o (λ parts r. Gives [] r))) (sym (plain_started c u f q names plain.begins))
          (sim_bind host R (HasResult R x Void) (result_place R x Void 19 [] [] []) B there m 15 s1 (λ v. 1) (λ v. 1)
          (calls c fs (suc m) f [] (globals_made (without_variables q))) (λ parts r. Gives [] r) own_body
          (λ v r h less. (
            (h.1.machine, h.1.alike),
            subst (λ t. Took host r.left 1 (result_place R x Void 19 [] [] [] v r h) r.left 1 t)
                (come_back host R x none bottom v r h)
                (took_none host r.left 1 (result_place R x Void 19 [] [] [] v r h)),
          ))),
    ))

-- ---- conditions

condition_started : (c : Running) (u : TypedUnit) (f : ℕ) (p : Progress) → global_names u.items ≡ [] → u.entry ≡ Conditional f
    → unit_started c u p ≡ bind (made (Int ∷ []) (globals_made (without_variables p))) (λ parts q. calls c (functions u.items) (suc p.left) f [] q)
unfolding bind
condition_started c u f p names entry =
    ap (λ (ns : List TypedName). bind (declared c no_functions [] ns (without_variables p)) (λ flow q. entry_called (calling c (functions u.items) q) u.entry (globals_made q))) names
    ∙ ap (λ (e : EntryPoint). entry_called (calling c (functions u.items) (without_variables p)) e (globals_made (without_variables p))) entry

one_made : (p : Progress) → made (Int ∷ []) p ≡ spend p (λ q. Gives (start_part Int ∷ []) q)
unfolding bind
one_made p = refl

pub one_long : (v : List Value) → value_types v ≡ Int ∷ [] → length v ≡ 1
one_long v h = sym (length-map v type_of_value) ∙ ap length h

module _ (host : MachineHost) (R : Saved → Deferred → Type 0) (x : Site) (bottom : x.bp ≡ 0) where
  -- the cell of the result is there, and the entry function is called
  abbrev ready_place : ℕ → (v : List Value) (p : Progress) → KeepsGlobals R x p → Machine
  ready_place f v p K = at x (x.places f) (pushed_all [] (pushed (start_parts (Int ∷ [])) ([] ++ K.under))) (21 ∷ []) [] K.machine

pub bare_conditions : EqualityIsTested → CodeStands → BareRuns Conditional Int 27
bare_conditions tested stand s host start script self waiting l p w same is listed engine_runs executes plain bare alike =
    let u = l.unit in
    let x = unit_site script u self waiting in
    let R = Carries s in
    let fs = functions u.items in
    let f = plain.entry in
    let execute = executing s start self in
    let c = running s execute script self u in
    let d = running_at host s.tables execute x in
    let same_running : d ≡ c = ap (λ (t : EngineTable). record d { table = t }) same in
    let names = no_names u.items bare in
    let none : x.globals ≡ [] = ap (map number_of) names in
    let bottom : x.bp ≡ 0 = no_cells (layout_of u).structs u.items bare in
    let code = program (unit_code u).lines in
    let places = place_of_label (unit_code u).lines in
    let next = body_count u.items + start_labels (has_globals u.items) u.items in
    let front = both_stand code places 13 (emit_start (layout_of u) (body_count u.items) (has_globals u.items) u.items u.entry) (emit_functions (layout_of u) next 0 u.items) (stand u) in
    let lines : LinesStand code places 13 (Instruction (ops.RsAdd (cell_kind Int)) ∷ JumpTo Jsr f ∷ Instruction (ops.MovSp (beneath 1)) ∷ Instruction ops.Retn ∷ []) =
    subst (λ (e : EntryPoint). LinesStand code places 13 (emit_start (layout_of u) (body_count u.items) false u.items e)) plain.begins
    (subst (λ (b : Bool). LinesStand code places 13 (emit_start (layout_of u) (body_count u.items) b u.items u.entry)) bare front.0) in
    let B = EndsAlike R in
    let there = end_place R x 27 in
    let made_cell = Holds (start_part Int) ∷ [] in
    let s1 = at x 15 made_cell [] [] w in
    let reserves = start_goes host R x listed s.tables execute fs no_functions 0 Void 13 Int [] [] [] w tt lines.0 in
    let goes = call_goes host R tested x listed s.tables execute fs no_functions 0 15 (x.places f) _ made_cell [] [] w lines.1.0.begins lines.1.0.leads in
    sim_paid host R B there 0 (at x 13 [] [] [] w) (λ v. 1) p (λ q. bind (unit_started c u q) (λ parts r. Gives [] r)) alike
    (λ m left.
    let q : Progress = record p { left = m } in
    let b = globals_made (without_variables q) in
    let K = kept_bare host R x none bottom q w alike in
    let called : Progress → Outcome (List Value) = λ r. calls c fs (suc m) f [] r in
    let H = HasResult R x Int in
    let back = result_place R x Int 21 [] [] [] in (
      s1,
      reserves,
      subst (λ o. Sim host R B there m 15 s1 (λ v. 1) (bind o (λ parts r. Gives [] r))) (sym (condition_started c u f q names plain.begins))
          (sim_bind host R H back B there m 15 s1 (λ v. 4) (λ v. 1) (bind (made (Int ∷ []) b) (λ parts r. called r)) (λ parts r. Gives [] r)
          (sim_bind host R (λ v r. KeepsGlobals R x r × (r.left ≤ m)) (λ v r h. ready_place host R x bottom f v r h.0) H back m 15 s1 (λ v. 30) (λ v. 4) (made (Int ∷ []) b) (λ parts r. called r)
          (subst (λ o. Sim host R (λ v r. KeepsGlobals R x r × (r.left ≤ m)) (λ v r h. ready_place host R x bottom f v r h.0) m 15 s1 (λ v. 30) o) (sym (one_made b))
          (sim_paid host R (λ v r. KeepsGlobals R x r × (r.left ≤ m)) (λ v r h. ready_place host R x bottom f v r h.0) 15 s1 (λ v. 30) b (λ r. Gives (start_part Int ∷ []) r) alike
          (λ k less.
          let K2 = kept_bare host R x none bottom (record q { left = k }) w alike in
          (ready_place host R x bottom f [] (record b { left = k }) K2, goes, ((K2, omega (arith, less)), took_none host k 30 (ready_place host R x bottom f [] (record b { left = k }) K2))))))
          (λ v r h less.
          let body = (functions_run tested s host x s.tables execute fs listed engine_runs (captures_are_carried s host s.tables execute script self waiting l same is) executes plain.placed (suc m)).0
          f plain.main plain.is [] (ap (parameter_types x) (sym plain.parameters)) r (omega (arith, less)) h.0 [] 21 [] [] 30 4 (omega arith) in
          let int_body = subst (λ (t : Ty). Sim host R (HasResult R x t) (result_place R x t 21 [] [] []) r.left 30
          (at x (x.places f) (pushed_all [] (pushed (start_parts (cell_types x.layout.structs t)) ([] ++ h.0.under)))
          (21 ∷ []) [] h.0.machine) (λ v. 4) (calls d fs (suc m) f [] r)) plain.result body in
          subst (λ (e : Running). Sim host R H back r.left 30 (ready_place host R x bottom f v r h.0) (λ v. 4) (calls e fs (suc m) f [] r)) same_running int_body))
          (λ v r h less.
          let empty = no_cell h.1.under (h.1.under_size ∙ bottom) in
          let off = dropped_goes host x listed 21 27 1 v ([] ++ h.1.under) [] [] h.1.machine lines.1.1.0 refl (one_long v h.0) in (
            (h.1.machine, h.1.alike),
            subst (λ t. Took host r.left 4 (back v r h) r.left 1 (at x 27 t [] [] h.1.machine)) empty
                (took_cost host r.left 4 1 (back v r h) (at x 27 ([] ++ h.1.under) [] [] h.1.machine) (omega arith) off),
          ))),
    ))
