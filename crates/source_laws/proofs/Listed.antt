-- Listed scripts do what their starts and their deferred commands mean.
use Rattle.std.proofs.Common.{◌≡◌, ◌⊎◌, ◌+◌, inl, inr, ℕ, zero, suc, Bool, true, false, List, [], ◌∷◌, map, Option, Some, slice_get, sym, subst, ◌∙◌, ap, refl}
use Rattle.std.specs.Option.{option_map}
use Rattle.nwq_value.specs.declared.value.Ty.{Ty}
use Rattle.nwq_value.specs.declared.value.Ty.TheVariants.{Void, Int}
use Rattle.nwq_value.specs.declared.value.Value.{Value}
use Rattle.nwq_value.specs.Engine.{EngineTable}
use Rattle.ncs_code.specs.Plain as ops
use Rattle.ncs_code.specs.File.{op_at}
use Rattle.ncs_emit.specs.Labelled.{place_of_label, program}
use Rattle.ncs_emit.specs.Standing.{LinesStand}
use Rattle.typing_rules.specs.declared.places.EntryPoint.{EntryPoint}
use Rattle.typing_rules.specs.declared.places.EntryPoint.TheVariants.{Main, Conditional}
use Rattle.typing_rules.specs.Typed.{TypedUnit}
use Rattle.saved_state.specs.declared.cell.Cell.{Cell}
use Rattle.saved_state.specs.declared.saved.Saved.{Saved}
use Rattle.emission_rules.specs.Laws.{CodeStands}
use Rattle.emission_rules.specs.Layout.{layout_of}
use Rattle.emission_rules.specs.Units.{body_count, start_labels, has_globals, emit_start, emit_functions, unit_code}
use Rattle.world_rules.specs.World.{World}
use Rattle.world_rules.specs.Alike.{Alike}
use Rattle.machine_rules.specs.Frames.{Frame, continued}
use Rattle.machine_rules.specs.Act.{Returns, act}
use Rattle.machine_rules.specs.Machine.{step, over}
use Rattle.machine_rules.specs.Runs.{entry}
use Rattle.machine_rules.specs.Laws.{EqualityIsTested}
use Rattle.source_meaning.specs.Evaluation.{Deferred, Progress}
use Rattle.source_meaning.specs.Scripts.{Function, Listed, Setting, Starter, functions, executing, listed_started, call_resumed}
use Rattle.source_laws.specs.Ledger.{MachineHost, Sim}
use Rattle.source_laws.specs.Kept.{Site, IsListed, at}
use Rattle.source_laws.specs.Carries.{Carries, unit_site}
use Rattle.source_laws.specs.Calling.{EngineRuns}
use Rattle.source_laws.specs.EngineHost.{AnswersAreTyped}
use Rattle.source_laws.specs.FunctionsRun.{IsPlaced}
use Rattle.source_laws.specs.Starts.{making, BeginsWith, return_place, main_return, condition_return, EndsAlike, end_place, StartsRun}
use Rattle.source_laws.specs.Resumes.{resumed_site, IsOver, over_place, resumed_return}
use Rattle.source_laws.specs.Executing.{script_of, IsHostOf, ExecutesIn, start_state, IsAtLast, last_state, StartsDo}
use Rattle.source_laws.specs.Entries.{ResumesDo}
use Rattle.source_laws.specs.Listed.{AreReady, ListedScriptsDo}
use Rattle.source_laws.proofs.Ledger.{took_none, sim_map}
use Rattle.source_laws.proofs.Steps.{both_stand, acted}
use Rattle.source_laws.proofs.EngineAlike.{engine_is_run}
use Rattle.source_laws.proofs.Starts.{mains_run, conditions_run}
use Rattle.source_laws.proofs.Resumes.{resumed_run}

-- ---- the code of a listed script

listed_get : (ls : List Listed) (i : ℕ) → slice_get (map script_of ls) i ≡ option_map script_of (slice_get ls i)
listed_get [] i = refl
listed_get (l ∷ ls) zero = refl
listed_get (l ∷ ls) (suc i) = listed_get ls i

site_listed : (s : Setting) (host : MachineHost) → IsHostOf host s → (script self : ℕ) (waiting : List Frame) (l : Listed) → slice_get s.scripts script ≡ Some l
    → IsListed host (unit_site script l.unit self waiting)
site_listed s host of script self waiting l is = record {
  name = l.name;
  is = ap (λ cs. slice_get cs script) of.scripts ∙ listed_get s.scripts script ∙ ap (option_map script_of) is;
}

-- ---- the last instruction

module _ (host : MachineHost) (R : Saved → Deferred → Type 0) (x : Site) (listed : IsListed host x) (place : ℕ) (begins : op_at x.code place ≡ Some ops.Retn) where
  returns : (cells : List Cell) (w : World Saved) → step host (at x place cells [] [] w) ≡ Some (over x.waiting (at x place cells [] [] w))
  unfolding act
  returns cells w = acted host x listed place ops.Retn cells [] [] w Returns begins refl

  abbrev over_there : (cells : List Cell) (w : World Saved) (v : List Value) (p : Progress) → Alike R w p.world → IsAtLast host R x.waiting v p
  over_there cells w v p alike = record { state = at x place cells [] [] w; ends = returns cells w; alike = alike }

-- ---- starts

module _ (s : Setting) (host : MachineHost) (of : IsHostOf host s) (typed : AnswersAreTyped s.table s.tables) (start : Option Starter) (script self : ℕ) (waiting : List Frame)
    (l : Listed) (is : slice_get s.scripts script ≡ Some l) (executes : ExecutesIn s host start self waiting) where
  abbrev site : Site
  site = unit_site script l.unit self waiting

  engine_runs : EngineRuns host (Carries s) s.tables
  engine_runs = engine_is_run s host s.tables of.engine (subst (λ (t : EngineTable). AnswersAreTyped t s.tables) (sym of.table) typed)

  listed_here : IsListed host site
  listed_here = site_listed s host of script self waiting l is

  start_does : (begin : ℕ → EntryPoint) (t : Ty) (last : ℕ) → StartsRun begin t last → op_at (program (unit_code l.unit).lines) (return_place (has_globals l.unit.items) last) ≡ Some ops.Retn
      → BeginsWith begin t s.table l.unit site → (p : Progress) (w : World Saved) → Alike (Carries s) w p.world
      → Sim host (Carries s) (IsAtLast host (Carries s) waiting) (last_state host (Carries s) waiting)
      p.left 0 (start_state script self waiting w) (λ v. 1) (listed_started s (executing s start) script self (Some l) p)
  start_does begin t last starts retn b p w alike =
      let place = return_place (has_globals l.unit.items) last in
      let here : IsListed host (making site) = record { name = listed_here.name; is = listed_here.is } in
      sim_map host (Carries s) (EndsAlike (Carries s)) (end_place (Carries s) (making site) place) (IsAtLast host (Carries s) waiting) (last_state host (Carries s) waiting)
      p.left 0 (start_state script self waiting w) (λ v. 1) (λ v. 1) (listed_started s (executing s start) script self (Some l) p)
      (starts s host start script self waiting l p w of.table is listed_here engine_runs (λ most. executes site refl refl most) (λ most. executes (making site) refl refl most)
      (subst (λ (u : EngineTable). BeginsWith begin t u l.unit site) (sym of.table) b) alike)
      (λ v q h. (over_there host (Carries s) (making site) here place retn [] h.0 v q h.1, took_none host q.left 1 (at (making site) place [] [] [] h.0)))

abbrev last_place : EntryPoint → ℕ
last_place (Main f) = main_return
last_place (Conditional f) = condition_return

-- the lines with which the code of a unit begins
abbrev BeginsSo : TypedUnit → Bool → EntryPoint → Type 0
BeginsSo u b e = LinesStand (program (unit_code u).lines) (place_of_label (unit_code u).lines) 13 (emit_start (layout_of u) (body_count u.items) b u.items e)

-- in the code of each unit a RETN stands there
returns_stand : CodeStands → (u : TypedUnit) → op_at (program (unit_code u).lines) (return_place (has_globals u.items) (last_place u.entry)) ≡ Some ops.Retn
returns_stand stand u = by_cases (has_globals u.items) refl u.entry refl
  where
    all : (b : Bool) → has_globals u.items ≡ b → (e : EntryPoint) → u.entry ≡ e → BeginsSo u b e
    all b some e is =
        subst (λ (f : EntryPoint). BeginsSo u b f) is
        (subst (λ (c : Bool). BeginsSo u c u.entry) some
        (both_stand (program (unit_code u).lines) (place_of_label (unit_code u).lines) 13 (emit_start (layout_of u) (body_count u.items) (has_globals u.items) u.items u.entry)
        (emit_functions (layout_of u) (body_count u.items + start_labels (has_globals u.items) u.items) 0 u.items) (stand u)).0)

    by_cases : (b : Bool) → has_globals u.items ≡ b → (e : EntryPoint) → u.entry ≡ e → op_at (program (unit_code u).lines) (return_place b (last_place e)) ≡ Some ops.Retn
    by_cases true some e is = (all true some e is).1.0
    by_cases false none (Main f) is = (all false none (Main f) is).1.0
    by_cases false none (Conditional f) is = (all false none (Conditional f) is).1.1.1.0

starts_do : EqualityIsTested → CodeStands → (s : Setting) (host : MachineHost) → IsHostOf host s → AnswersAreTyped s.table s.tables → AreReady s → StartsDo s host
starts_do tested stand s host of typed ready script l is start self waiting p w executes alike = by_entry (ready script l is self waiting)
  where
    by_entry : BeginsWith Main Void s.table l.unit (unit_site script l.unit self waiting) ⊎ BeginsWith Conditional Int s.table l.unit (unit_site script l.unit self waiting)
        → Sim host (Carries s) (IsAtLast host (Carries s) waiting) (last_state host (Carries s) waiting)
        p.left 0 (start_state script self waiting w) (λ v. 1) (listed_started s (executing s start) script self (Some l) p)
    by_entry (inl b) = start_does s host of typed start script self waiting l is executes Main Void main_return (mains_run tested stand)
        (ap (λ (e : EntryPoint). op_at (program (unit_code l.unit).lines) (return_place (has_globals l.unit.items) (last_place e))) (sym b.begins) ∙ returns_stand stand l.unit) b p w alike
    by_entry (inr b) = start_does s host of typed start script self waiting l is executes Conditional Int condition_return (conditions_run tested stand)
        (ap (λ (e : EntryPoint). op_at (program (unit_code l.unit).lines) (return_place (has_globals l.unit.items) (last_place e))) (sym b.begins) ∙ returns_stand stand l.unit) b p w alike

-- ---- deferred commands

placed_in : (s : Setting) (host : MachineHost) → IsHostOf host s → (u : TypedUnit) (x : Site) → BeginsWith Main Void s.table u x ⊎ BeginsWith Conditional Int s.table u x
    → (f : ℕ) (fn : Function) → slice_get (functions u.items) f ≡ Some fn → IsPlaced host.table (functions u.items) x f fn
placed_in s host of u x (inl b) f fn is = subst (λ (t : EngineTable). IsPlaced t (functions u.items) x f fn) (sym of.table) (b.placed f fn is)
placed_in s host of u x (inr b) f fn is = subst (λ (t : EngineTable). IsPlaced t (functions u.items) x f fn) (sym of.table) (b.placed f fn is)

resumes_do : EqualityIsTested → (s : Setting) (host : MachineHost) → IsHostOf host s → AnswersAreTyped s.table s.tables → AreReady s → ResumesDo s host
resumes_do tested s host of typed ready c d l self p w carries is executes alike =
    let x = resumed_site carries self in
    let place = resumed_return carries in
    let listed = site_listed s host of d.script self [] carries.listed carries.is in
    let engine = engine_is_run s host s.tables of.engine (subst (λ (t : EngineTable). AnswersAreTyped t s.tables) (sym of.table) typed) in
    let r = resumed_run tested s host self c d carries p w of.table listed engine (λ most. executes x refl refl most)
    (placed_in s host of carries.listed.unit x (ready d.script carries.listed carries.is self [])) alike in
    subst (λ o. Sim host (Carries s) (IsAtLast host (Carries s) []) (last_state host (Carries s) []) p.left 0 (entry (continued c self) w) (λ v. 1) (call_resumed s d self o p)) is
    (sim_map host (Carries s) (IsOver (Carries s)) (over_place (Carries s) x place) (IsAtLast host (Carries s) []) (last_state host (Carries s) [])
    p.left 0 (entry (continued c self) w) (λ v. 1) (λ v. 1) (call_resumed s d self (slice_get s.scripts d.script) p) r.1
    (λ v q h. (over_there host (Carries s) x listed place r.0 h.cells h.world v q h.alike, took_none host q.left 1 (at x place h.cells [] [] h.world))))

pub listed_scripts_do : EqualityIsTested → CodeStands → ListedScriptsDo
listed_scripts_do tested stand s host of typed ready = record {
  starts = starts_do tested stand s host of typed ready;
  resumes = resumes_do tested s host of typed ready;
}
