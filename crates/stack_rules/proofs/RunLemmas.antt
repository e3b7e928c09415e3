-- Steps and runs of safe states.
use Rattle.std.proofs.Common.{◌≡◌, ℕ, zero, suc, List, [], ◌∷◌, length, slice_get, position, Option, Some, None, Bool, true, false, sym, subst, ◌∙◌, ap, refl, get_or}
use Rattle.std.specs.Prelude.{map, nat_lt}
use Rattle.std.specs.Option.{option_map, option_and_then}
use Rattle.std.proofs.lemmas.Option.{slice_get-get_or}
use Rattle.std.proofs.lemmas.List.Quantifiers.{position-Some}
use Rattle.std.specs.Char.{to_ascii_lowercase}
use Rattle.std.specs.Str.{bytes_eq}
use Rattle.ncs_code.specs.Plain.{PlainOp}
use Rattle.ncs_code.specs.File.{op_at}
use Rattle.machine_rules.specs.Frames.{Frame, started, continued}
use Rattle.machine_rules.specs.Act.{Act, Moves, Asks, Executes, Returns, Divides, act}
use Rattle.machine_rules.specs.Machine.{Script, Host, State, Next, Goes, Ends, Divided, waiting_limit, script_named, script_begun, executed, over, followed, next_op, step}
use Rattle.machine_rules.specs.Runs.{Ran, after_step, run, entry}
use Rattle.stack_rules.specs.Fits.{Tables, IsListed}
use Rattle.stack_rules.specs.Safe.{IsSafeFrame, AreSafeFrames, IsSafe, GoesSafely}
use Rattle.stack_rules.specs.Laws.{IsReached, ByCall, ByMissing, ByDepth, IsWellStackedHost, IsSoundRun, StartsSafely, ContinuesSafely, StepsSafely, RunsSafely, ScriptsAreSound, StatesAreSound}
use Rattle.stack_rules.proofs.StepLemmas.{Lower, ActsSafely, acts_safely}

-- ---- scripts that are executed

first_listed : (scripts : List Script) (p : Script → Bool) (number : ℕ) → position p scripts ≡ Some number → IsListed scripts number
first_listed [] p number h = absurd cc
first_listed (s ∷ scripts) p number h = let q = position-Some p (s ∷ scripts) number s h in
    (get_or (s ∷ scripts) number s, slice_get-get_or (s ∷ scripts) number s q.0)

named_listed : (scripts : List Script) (name : List ℕ) (number : ℕ) → script_named scripts name ≡ Some number → IsListed scripts number
named_listed scripts name number h = first_listed scripts (λ s. bytes_eq (map to_ascii_lowercase name) s.name) number h

begins_safely : {W : Type 0} (host : Host W) (tables : Tables) (first : W) (s : State W) → StartsSafely
    → IsWellStackedHost host tables first → IsSafe host.scripts tables (IsReached host tables first) s
    → (number : Option ℕ) (name : List ℕ) (target : ℕ) (f : Frame) → ((n : ℕ) → number ≡ Some n → IsListed host.scripts n) → IsSafeFrame host.scripts tables f
    → IsSafe host.scripts tables (IsReached host tables first) (script_begun host number name target f s)
begins_safely host tables first s starts well safe None name target f listed here =
    record { running = here; waiting = safe.waiting; world = ByMissing target name s.world safe.world }
begins_safely {W} host tables first s starts well safe (Some number) name target f listed here = on (nat_lt (length s.waiting) waiting_limit) refl
  where
    on : (b : Bool) → nat_lt (length s.waiting) waiting_limit ≡ b → IsSafe host.scripts tables (IsReached host tables first) (script_begun host (Some number) name target f s)
    on true e = rw e (record {
      running = starts host.table host.scripts tables number target well.scripts (listed number refl);
      waiting = (here, safe.waiting);
      world = safe.world;
    })
    on false e = rw e (record { running = here; waiting = safe.waiting; world = ByDepth target name s.world safe.world })

executes_safely : {W : Type 0} (host : Host W) (tables : Tables) (first : W) (s : State W) → StartsSafely
    → IsWellStackedHost host tables first → IsSafe host.scripts tables (IsReached host tables first) s
    → (name : List ℕ) (target : ℕ) (f : Frame) → IsSafeFrame host.scripts tables f → IsSafe host.scripts tables (IsReached host tables first) (executed host name target f s)
executes_safely host tables first s starts well safe [] target f here = record { running = here; waiting = safe.waiting; world = safe.world }
executes_safely {W} host tables first s starts well safe (b ∷ name) target f here = on (host.may_run f.self target s.world) refl
  where
    on : (may : Bool) → host.may_run f.self target s.world ≡ may → IsSafe host.scripts tables (IsReached host tables first) (executed host (b ∷ name) target f s)
    on true e = rw e (begins_safely host tables first s starts well safe (script_named host.scripts (b ∷ name)) (b ∷ name) target f
        (named_listed host.scripts (b ∷ name)) here)
    on false e = rw e (record { running = here; waiting = safe.waiting; world = safe.world })

-- ---- a step

over_safely : {W : Type 0} (scripts : List Script) (tables : Tables) (P : W → Type 0) (s : State W) (waiting : List Frame) → AreSafeFrames scripts tables waiting → P s.world
    → GoesSafely scripts tables P (Some (over waiting s))
over_safely scripts tables P s [] h world = tt
over_safely scripts tables P s (f ∷ waiting) h world = record { running = h.0; waiting = h.1; world = world }

follows_safely : {W : Type 0} (host : Host W) (tables : Tables) (first : W) (s : State W) → StartsSafely
    → IsWellStackedHost host tables first → IsSafe host.scripts tables (IsReached host tables first) s
    → (o : Option Act) → ActsSafely host.table host.scripts tables o → GoesSafely host.scripts tables (IsReached host tables first) (option_map (followed host s) o)
follows_safely host tables first s starts well safe None h = absurd h
follows_safely host tables first s starts well safe (Some (Moves f)) h = record { running = h; waiting = safe.waiting; world = safe.world }
follows_safely host tables first s starts well safe (Some (Asks number values action f)) h =
    record {
      running = h.answered (host.engine number f.self values action s.world).value (well.typed number f.self h.routine values action s.world h.listed h.callable h.types h.fits safe.world);
      waiting = safe.waiting;
      world = ByCall number f.self h.routine values action s.world h.listed h.callable h.types h.fits safe.world;
    }
follows_safely host tables first s starts well safe (Some (Executes name target f)) h = executes_safely host tables first s starts well safe name target f h
follows_safely host tables first s starts well safe (Some Returns) h = over_safely host.scripts tables (IsReached host tables first) s s.waiting safe.waiting safe.world
follows_safely host tables first s starts well safe (Some Divides) h = tt

next_is : (scripts : List Script) (f : Frame) (script : Script) (op : PlainOp) → slice_get scripts f.script ≡ Some script → op_at script.code f.place ≡ Some op
    → next_op scripts f ≡ Some op
next_is scripts f script op h k = ap (option_and_then (λ (script : Script). op_at script.code f.place)) h ∙ k

pub steps_safely : {W : Type 0} → Lower → StartsSafely → StepsSafely W
unfolding step
steps_safely {W} L starts host tables first s well safe =
    let r = safe.running in
    let meets = well.scripts s.running.script r.listed.0 r.listed.1 in
    let i = meets.each r.entry s.running.place r.shape r.known in
    subst (λ (o : Option PlainOp). GoesSafely host.scripts tables (IsReached host tables first) (option_and_then (λ (op : PlainOp). option_map (followed host s) (act host.table op s.running)) o))
    (sym (next_is host.scripts s.running r.listed.0 i.op r.listed.1 i.stands))
    (follows_safely host tables first s starts well safe (act host.table i.op s.running)
    (acts_safely L host.table host.scripts tables r.listed.0.code s.running r meets well.execute i.op i.obeys))

-- ---- runs

runs_from : {W : Type 0} (host : Host W) (tables : Tables) (P : W → Type 0) (s : State W) (next : Option (Next W)) (go : State W → Ran W) → P s.world
    → GoesSafely host.scripts tables P next → ((t : State W) → IsSafe host.scripts tables P t → IsSoundRun P (go t)) → IsSoundRun P (after_step next s go)
runs_from host tables P s None go world h k = absurd h
runs_from host tables P s (Some (Goes t)) go world h k = let r = k t h in record { no_fault = r.no_fault; world = r.world }
runs_from host tables P s (Some Ends) go world h k = record { no_fault = λ e. absurd cc; world = world }
runs_from host tables P s (Some Divided) go world h k = record { no_fault = λ e. absurd cc; world = world }

pub runs_safely : {W : Type 0} → StepsSafely W → RunsSafely W
runs_safely steps host tables first zero s well safe = record { no_fault = λ e. absurd cc; world = safe.world }
runs_safely steps host tables first (suc limit) s well safe = runs_from host tables (IsReached host tables first) s (step host s) (run host limit) safe.world (steps host tables first s well safe)
    (λ t safe. runs_safely steps host tables first limit t well safe)

pub scripts_are_sound : {W : Type 0} → StepsSafely W → StartsSafely → ScriptsAreSound W
scripts_are_sound steps starts host tables first limit number self world well listed kept = runs_safely steps host tables first limit (entry (started number self) world) well
    (record { running = starts host.table host.scripts tables number self well.scripts listed; waiting = tt; world = kept })

pub states_are_sound : {W : Type 0} → StepsSafely W → ContinuesSafely → StatesAreSound W
states_are_sound steps continues host tables first limit saved self world well fits kept = runs_safely steps host tables first limit (entry (continued saved self) world) well
    (record { running = continues host.scripts tables saved self fits; waiting = tt; world = kept })
