-- A captured state that goes on does what the command means that it carries.
use Rattle.std.proofs.Common.{arith, ◌≡◌, ℕ, suc, [], ◌∷◌, ◌++◌, length, reverse, Option, sym, subst, ◌∙◌, ap}
use Rattle.std.specs.Prelude.{slice_get}
use Rattle.std.proofs.lemmas.List.{length-reverse}
use Rattle.nwq_value.specs.Engine.{EngineTable}
use Rattle.typing_rules.specs.Typed.{type_of}
use Rattle.ncs_code.specs.Plain as ops
use Rattle.ncs_emit.specs.Labelled.{Instruction}
use Rattle.saved_state.specs.declared.cell.Cell.TheVariants.{Base}
use Rattle.emission_rules.specs.Layout.{layout_of}
use Rattle.emission_rules.specs.Expressions.{emit}
use Rattle.machine_rules.specs.Frames.{continued}
use Rattle.machine_rules.specs.Runs.{entry}
use Rattle.machine_rules.specs.Laws.{EqualityIsTested}
use Rattle.source_meaning.specs.Evaluation.{Progress}
use Rattle.source_meaning.specs.Expressions.{Running, eval}
use Rattle.source_meaning.specs.Scripts.{Listed, functions, calling, executing, first_starter, running, call_resumed}
use Rattle.source_laws.specs.Ledger.{Machine, Sim}
use Rattle.source_laws.specs.Kept.{pushed, Kept, spot_at}
use Rattle.source_laws.specs.Carries.{Carries, unit_site}
use Rattle.source_laws.specs.Fine.{IsFine}
use Rattle.source_laws.specs.Simulation.{running_at, HoldsValue, value_place, value_credits}
use Rattle.source_laws.specs.Resumes.{IsOver, over_place, resumed_return, ResumedRun}
use Rattle.source_laws.proofs.Ledger.{took_none, took_less, sim_map}
use Rattle.source_laws.proofs.Steps.{both_stand}
use Rattle.source_laws.proofs.Captures.{captures_are_carried}
use Rattle.source_laws.proofs.Functions.{functions_run}

pub resumed_run : EqualityIsTested → ResumedRun
resumed_run tested s host self saved d carried p w same listed engine_runs executes placed alike =
    let l = carried.listed in
    let u = l.unit in
    let x = unit_site d.script u self [] in
    let R = Carries s in
    let fs = functions u.items in
    let execute = executing s (first_starter s) self in
    let here = running_at host s.tables execute x in
    let own = running s execute d.script self u in
    let same_running : here ≡ own = ap (λ (t : EngineTable). record here { table = t }) same in
    let q : Progress = record p { globals = d.globals; locals = d.locals } in
    let depth = length saved.locals in
    let lines = emit (layout_of u) carried.label depth d.call in
    let b = both_stand x.code x.places saved.place lines (Instruction ops.Retn ∷ []) carried.stands in
    let next = resumed_return carried in
    let K : Kept R x d.sight depth d.globals d.locals p.world = record {
      under = reverse saved.globals;
      frame = reverse saved.locals;
      machine = w;
      under_size = length-reverse saved.globals ∙ carried.size;
      frame_size = length-reverse saved.locals;
      under_held = carried.globals_held;
      frame_held = carried.locals_held;
      global_values = carried.globals self [];
      local_values = carried.locals self [];
      alike = alike;
    } in
    let between = Base 0 ∷ [] in
    let start = spot_at R x saved.place [] between [] [] K in
    let frame_of : ℕ → ℕ → Machine = λ script bp. record {
      running = record {
        script = script;
        place = saved.place;
        stack = record { cells = reverse saved.locals ++ Base 0 ∷ reverse saved.globals; bp = bp };
        calls = [];
        pending = [];
        self = self;
      };
      waiting = [];
      world = w;
    } in
    let begins : entry (continued saved self) w ≡ start = ap (λ (k : ℕ). frame_of k (length saved.globals)) carried.script ∙ ap (frame_of d.script) carried.size in
    let fine = subst (λ (t : EngineTable). IsFine t fs x d.sight d.call) (sym same) (carried.fine self []) in
    let runs = (functions_run tested s host x s.tables execute fs listed engine_runs
    (captures_are_carried s host s.tables execute d.script self [] l same carried.is) executes placed
    (suc p.left)).1 d.call
    d.sight depth carried.label depth saved.place 0 q K [] between [] [] fine b.0 (omega arith) (omega arith) tt in
    let ended = sim_map host R (HoldsValue R x d.sight depth (type_of d.call)) (value_place R x d.sight depth (type_of d.call) next [] between [] [])
    (IsOver R) (over_place R x next) p.left 0 start (value_credits 0) (λ v. 1) (eval here (calling here fs q) d.sight d.call q)
    runs
    (λ v r h. (
      record { cells = pushed v [] ++ (h.1.frame ++ (between ++ h.1.under)); world = h.1.machine; alike = h.1.alike },
      took_less host 1 (omega arith) (took_none host r.left (value_credits 0 v) (spot_at R x next (pushed v []) between [] [] h.1)),
    )) in (
      b.1.0,
      subst (λ (m : Machine). Sim host R (IsOver R) (over_place R x next) p.left 0 m (λ v. 1) (call_resumed s d self (slice_get s.scripts d.script) p)) (sym begins)
          (subst (λ (o : Option Listed). Sim host R (IsOver R) (over_place R x next) p.left 0 start (λ v. 1) (call_resumed s d self o p)) (sym carried.is)
          (subst (λ (c : Running). Sim host R (IsOver R) (over_place R x next) p.left 0 start (λ v. 1) (eval c (calling c fs q) d.sight d.call q)) same_running ended)),
    )
