-- A run, turn by turn.
use Rattle.std.proofs.Common.{arith, ◌≡◌, ◌≤◌, ◌<◌, ◌+◌, ◌-◌, ℕ, suc, List, [], ◌∷◌, length, Option, Some, None, sym, subst, ap, ◌∙◌, refl}
use Rattle.std.specs.Prelude.{◌^◌, ◌≢◌, slice_get}
use Rattle.nwq_value.specs.Engine.{IsTable}
use Rattle.nwq_value.specs.Limits.{instruction_limit}
use Rattle.saved_state.specs.declared.saved.Saved.{Saved}
use Rattle.saved_state.specs.declared.cell.Cell.{Cell}
use Rattle.machine_rules.specs.Outlines.{Outline, Typed, Keeps, outlines}
use Rattle.machine_rules.specs.Frames.{Frame}
use Rattle.machine_rules.specs.Machine.{Script, Host, State, Next, Goes, Ends, Divided, step}
use Rattle.ncs_machine.specs.declared.entry.Ran.TheVariants as answer
use Rattle.ncs_machine.specs.declared.entry.Ran as answers
use Rattle.machine_rules.specs.Runs.{Ending, Over, ZeroDivisor, OutOfInstructions, Ran, after_step, one_step_longer, run}
use Rattle.stack_rules.specs.Fits.{Tables}
use Rattle.stack_rules.specs.Safe.{IsSafe, IsSafeFrame, AreSafeFrames, GoesSafely, from_base}
use Rattle.stack_rules.specs.Laws.{AllMeet, IsReached, Unchanged, ByCall, ByMissing, ByDepth, IsWellStackedHost, StepsSafely, TablesTypeExecuteScript}
use Rattle.world_rules.specs.World.{World, count}
use Rattle.world_rules.specs.Kept.{IsWorld, EngineKeeps, NoScriptKeeps, TooDeepKeeps}
use Rattle.world_rules.specs.declared.data.Told.TheVariants as line
use Rattle.ncs_machine.specs.declared.scripts.Loaded.{Loaded}
use Rattle.ncs_machine.specs.Host.{EngineView, host, scripts_of}
use Rattle.ncs_machine.specs.Endings.{EndsAs, IsCut, IsLeft, IsRunOf, WhereRan}
use Rattle.ncs_machine.specs.Stored.{StatesFit}
use Rattle.ncs_machine.proofs.Fitting.{engine_keeps, told_keeps}
use Rattle.ncs_machine.specs.Steps.{AnswersTyped, Frames, GoesWell, IsHalfway, state, world_behind}
use Rattle.world_core.specs.Calls.{IsEarly}
use Rattle.ncs_machine.proofs.Stepping.{is_listed}
use Rattle.ncs_machine.proofs.Kept.{AllObjects, AreObjects, WorldLaws, step_leaves}

abbrev pub Reached : List Script → EngineView → Tables → World Saved → World Saved → Type 0
Reached scripts e tables first w = IsReached (host scripts e) tables first w

-- so many instructions before a run
abbrev pub after_so_many : {W : Type 0} → ℕ → Ran W → Ran W
after_so_many n r = record r { count = n + r.count }

-- what a run rests on
pub record Grounds (scripts : List Script) (e : EngineView) (tables : Tables) (first : World Saved) : Type 0 where
  pub steps : StepsSafely (World Saved)
  pub sound : IsWellStackedHost (host scripts e) tables first
  pub laws : WorldLaws

pub record SoFar (scripts : List Script) (e : EngineView) (tables : Tables) (limit : ℕ) (first : State (World Saved)) (done : ℕ) (s : State (World Saved)) : Type 0 where
  pub grounds : Grounds scripts e tables first.world
  pub safe : IsSafe scripts tables (Reached scripts e tables first.world) s
  pub same : run (host scripts e) limit first ≡ after_so_many done (run (host scripts e) (limit - done) s)
  pub led : (k : ℕ) → run (host scripts e) (done + k) first ≡ after_so_many done (run (host scripts e) k s)
  pub objects : AreObjects (count first.world) s
  pub world : IsWorld s.world
  pub left : IsLeft done first.world s.world

steps_on : (scripts : List Script) (e : EngineView) (tables : Tables) (first : World Saved) (s : State (World Saved)) → Grounds scripts e tables first
    → IsSafe scripts tables (Reached scripts e tables first) s → GoesSafely scripts tables (Reached scripts e tables first) (step (host scripts e) s)
unfolding host
steps_on scripts e tables first s g safe =
    g.steps (host scripts e) tables first s g.sound safe

joined_left : (n : ℕ) (w v u : World Saved) → IsLeft n w v → IsLeft 1 v u → IsLeft (n + 1) w u
joined_left n w v u a b = record {
  objects = b.objects ∙ a.objects;
  clock = b.clock ∙ a.clock;
  no_less = let x = a.no_less in let y = b.no_less in omega arith;
  few = let x = a.few in let y = b.few in omega arith;
  acting = λ o acts. b.acting o (a.acting o acts);
}

none_left : (w : World Saved) → IsLeft 0 w w
none_left w = record { objects = refl; clock = refl; no_less = omega arith; few = omega arith; acting = λ o a. a }

run_next : {W : Type 0} (h : Host W) (s t : State W) (k : ℕ) → step h s ≡ Some (Goes t) → run h (suc k) s ≡ one_step_longer (run h k t)
run_next h s t k e = ap (λ n. after_step n s (run h k)) e

run_ends : {W : Type 0} (h : Host W) (s : State W) (k : ℕ) → step h s ≡ Some Ends → run h (suc k) s ≡ record { ending = Over; count = 1; last = s }
run_ends h s k e = ap (λ n. after_step n s (run h k)) e

run_divides : {W : Type 0} (h : Host W) (s : State W) (k : ℕ) → step h s ≡ Some Divided → run h (suc k) s ≡ record { ending = ZeroDivisor; count = 1; last = s }
run_divides h s k e = ap (λ n. after_step n s (run h k)) e

module _ (scripts : List Script) (e : EngineView) (tables : Tables) (limit : ℕ) (first : State (World Saved)) where
  pub begins : Grounds scripts e tables first.world → IsSafe scripts tables (Reached scripts e tables first.world) first
      → AreObjects (count first.world) first → IsWorld first.world → SoFar scripts e tables limit first 0 first
  begins g safe objects world = record {
    grounds = g;
    safe = safe;
    same = none (run (host scripts e) limit first) ∙ ap (λ n. after_so_many 0 (run (host scripts e) n first)) whole;
    led = λ k. ap (λ n. run (host scripts e) n first) (nothing k) ∙ none (run (host scripts e) k first);
    objects = objects;
    world = world;
    left = none_left first.world;
  }
    where
      none : (r : Ran (World Saved)) → r ≡ after_so_many 0 r
      none r = ap (λ n. record r { count = n }) (omega arith)

      whole : limit ≡ limit - 0
      whole = omega arith

      nothing : (k : ℕ) → 0 + k ≡ k
      nothing k = omega arith

  pub goes_on : (done : ℕ) (s t : State (World Saved)) → SoFar scripts e tables limit first done s → done < limit
      → step (host scripts e) s ≡ Some (Goes t) → SoFar scripts e tables limit first (done + 1) t
  goes_on done s t x less h =
      let g = x.grounds in
      let l = step_leaves g.laws scripts e s t h in
      let left = x.left in
      let own = subst (λ n. s.running.self ≤ n) (sym left.objects) x.objects.running in
      record {
        grounds = x.grounds;
        safe = subst (GoesSafely scripts tables (Reached scripts e tables first.world)) h (steps_on scripts e tables first.world s g x.safe);
        same = x.same ∙ ap (λ n. after_so_many done (run (host scripts e) n s)) one_more ∙ ap (after_so_many done) (run_next (host scripts e) s t (limit - (done + 1)) h)
            ∙ shifted (run (host scripts e) (limit - (done + 1)) t);
        led = λ k. ap (λ n. run (host scripts e) n first) (next_to k) ∙ x.led (suc k) ∙ ap (after_so_many done) (run_next (host scripts e) s t k h) ∙ shifted (run (host scripts e) k t);
        objects = l.objects (count first.world) left.objects x.objects;
        world = l.world x.world own;
        left = joined_left done first.world s.world t.world left (l.left x.world own);
      }
    where
      one_more : limit - done ≡ suc (limit - (done + 1))
      one_more = omega (arith, less)

      next_to : (k : ℕ) → (done + 1) + k ≡ done + suc k
      next_to k = omega arith

      shifted : (r : Ran (World Saved)) → after_so_many done (one_step_longer r) ≡ after_so_many (done + 1) r
      shifted r = ap (λ n. record r { count = n }) (omega arith)

  pub ends : (done : ℕ) (s : State (World Saved)) → SoFar scripts e tables limit first done s → done < limit → step (host scripts e) s ≡ Some Ends
      → run (host scripts e) limit first ≡ record { ending = Over; count = done + 1; last = s }
  ends done s x less h = x.same ∙ ap (λ n. after_so_many done (run (host scripts e) n s)) one_more ∙ ap (after_so_many done) (run_ends (host scripts e) s (limit - (done + 1)) h)
    where
      one_more : limit - done ≡ suc (limit - (done + 1))
      one_more = omega (arith, less)

  pub divides : (done : ℕ) (s : State (World Saved)) → SoFar scripts e tables limit first done s → done < limit → step (host scripts e) s ≡ Some Divided
      → run (host scripts e) limit first ≡ record { ending = ZeroDivisor; count = done + 1; last = s }
  divides done s x less h = x.same ∙ ap (λ n. after_so_many done (run (host scripts e) n s)) one_more ∙ ap (after_so_many done) (run_divides (host scripts e) s (limit - (done + 1)) h)
    where
      one_more : limit - done ≡ suc (limit - (done + 1))
      one_more = omega (arith, less)

  pub stops : (done : ℕ) (s : State (World Saved)) → SoFar scripts e tables limit first done s → done ≡ limit
      → run (host scripts e) limit first ≡ record { ending = OutOfInstructions; count = limit; last = s }
  stops done s x h = x.same ∙ ap (λ n. after_so_many done (run (host scripts e) n s)) none ∙ ap (λ n. record { ending = OutOfInstructions; count = n; last = s }) all
    where
      none : limit - done ≡ 0
      none = omega (arith, h)

      all : done + 0 ≡ limit
      all = omega (arith, h)

  -- ---- a run that is cut short

  reached : (done : ℕ) (s : State (World Saved)) → SoFar scripts e tables limit first done s → run (host scripts e) done first ≡ record { ending = OutOfInstructions; count = done; last = s }
  reached done s x = ap (λ n. run (host scripts e) n first) none_more ∙ x.led 0 ∙ ap (λ n. record { ending = OutOfInstructions; count = n; last = s }) (sym none_more)
    where
      none_more : done ≡ done + 0
      none_more = omega arith

  last_world : (n : Option (Next (World Saved))) (s : State (World Saved)) → (after_step n s (run (host scripts e) 0)).last.world ≡ world_behind n s.world
  last_world None s = refl
  last_world (Some (Goes t)) s = refl
  last_world (Some Ends) s = refl
  last_world (Some Divided) s = refl

  behind : (done : ℕ) (s : State (World Saved)) → SoFar scripts e tables limit first done s → (run (host scripts e) (suc done) first).last.world ≡ world_behind (step (host scripts e) s) s.world
  behind done s x = ap (λ n. (run (host scripts e) n first).last.world) one_more ∙ ap (λ (r : Ran (World Saved)). r.last.world) (x.led (suc 0)) ∙ last_world (step (host scripts e) s) s
    where
      one_more : suc done ≡ done + suc 0
      one_more = omega arith

  pub cut_short : (done self : ℕ) (s : State (World Saved)) (v : World Saved) → SoFar scripts e tables limit first done s → self ≡ s.running.self
      → IsHalfway s.world (world_behind (step (host scripts e) s) s.world) v → IsCut (host scripts e) done self first v
  cut_short done self s v x own half =
      let r = reached done s x in
      record {
        ending = ap (λ (r : Ran (World Saved)). r.ending) r;
        counted = ap (λ (r : Ran (World Saved)). r.count) r;
        own = own ∙ sym (ap (λ (r : Ran (World Saved)). r.last.running.self) r);
        world = subst (λ w. IsHalfway w (run (host scripts e) (suc done) first).last.world v) (sym (ap (λ (r : Ran (World Saved)). r.last.world) r))
            (subst (λ w. IsHalfway s.world w v) (sym (behind done s x)) half);
      }

  -- ---- a step from here

  base_short : (os : List Outline) → length (from_base os) ≤ length os
  base_short [] = omega arith
  base_short (Typed t ∷ os) = let h = base_short os in omega arith
  base_short (Keeps bp ∷ os) = omega arith

  outlines_count : (cells : List Cell) → length (outlines cells) ≡ length cells
  outlines_count [] = refl
  outlines_count (c ∷ cells) = ap suc (outlines_count cells)

  bp_inside : (f : Frame) → IsSafeFrame scripts tables f → f.stack.bp ≤ length f.stack.cells
  bp_inside f s =
      let deep = s.carries.under.deep in
      let short = base_short (outlines f.stack.cells) in
      let same = outlines_count f.stack.cells in
      omega arith

  well : (n : Option (Next (World Saved))) → GoesSafely scripts tables (Reached scripts e tables first.world) n → GoesWell n
  well None h = h
  well (Some (Goes t)) h = bp_inside t.running h.running
  well (Some Ends) h = tt
  well (Some Divided) h = tt

  pub steps_well : (done : ℕ) (s : State (World Saved)) → SoFar scripts e tables limit first done s → GoesWell (step (host scripts e) s)
  steps_well done s x = well (step (host scripts e) s) (steps_on scripts e tables first.world s x.grounds x.safe)

  pub own_inside : (done : ℕ) (s : State (World Saved)) → SoFar scripts e tables limit first done s → s.running.self ≤ count s.world
  own_inside done s x = let left = x.left in subst (λ n. s.running.self ≤ n) (sym left.objects) x.objects.running

  pub still_early : (done : ℕ) (s : State (World Saved)) → SoFar scripts e tables limit first done s → done ≤ limit → limit ≤ instruction_limit
      → first.world.clock < 2 ^ 62 → first.world.agenda.next < 2 ^ 62 → IsEarly s.world
  still_early done s x a b c d = let left = x.left in record {
    clock = let k = left.clock in omega arith;
    next = let k = left.few in omega arith;
  }

-- the script that runs is listed
pub still_listed : (scripts : List Loaded) (e : EngineView) (tables : Tables) (limit : ℕ) (first : State (World Saved)) (done : ℕ) (m : Frames) (w : World Saved)
    → SoFar (scripts_of scripts) e tables limit first done (state m w) → slice_get scripts m.running.script ≢ None
still_listed scripts e tables limit first done m w x = is_listed scripts e m w (steps_well (scripts_of scripts) e tables limit first done (state m w) x)

-- ---- the worlds that a run leads to

reached_fits : (scripts : List Script) (e : EngineView) (tables : Tables) (first w : World Saved) → Reached scripts e tables first w → StatesFit scripts tables first → StatesFit scripts tables w
unfolding host
reached_fits scripts e tables first w Unchanged f = f
reached_fits scripts e tables first w (ByCall number caller r values action world listed callable types fits before) f =
    engine_keeps scripts tables e number caller values action world fits (reached_fits scripts e tables first world before f)
reached_fits scripts e tables first w (ByMissing target name world before) f = told_keeps scripts tables target (line.NoScript name) world (reached_fits scripts e tables first world before f)
reached_fits scripts e tables first w (ByDepth target name world before) f = told_keeps scripts tables target (line.Deep name) world (reached_fits scripts e tables first world before f)

more_left : (n m : ℕ) (w v : World Saved) → n ≤ m → IsLeft n w v → IsLeft m w v
more_left n m w v less l = record { objects = l.objects; clock = l.clock; no_less = l.no_less; few = let k = l.few in omega arith; acting = l.acting }

-- ---- how a run begins

pub grounds_are : (scripts : List Script) (e : EngineView) (tables : Tables) (first : World Saved) → StepsSafely (World Saved) → EngineKeeps Saved → NoScriptKeeps Saved → TooDeepKeeps Saved
    → TablesTypeExecuteScript → IsTable e.table → AllMeet e.table scripts tables → AnswersTyped e → Grounds scripts e tables first
unfolding host
grounds_are scripts e tables first steps engine no_script too_deep types table meets typed = record {
  steps = steps;
  sound = record {
    scripts = meets;
    execute = types e.table table;
    typed = λ number caller r values action world listed callable fit fits reached. typed number caller r values action world listed callable;
  };
  laws = record { engine = engine; no_script = no_script; too_deep = too_deep };
}

pub run_begins : (scripts : List Script) (e : EngineView) (tables : Tables) (limit : ℕ) (m : Frames) (w : World Saved)
    → StepsSafely (World Saved) → EngineKeeps Saved → NoScriptKeeps Saved → TooDeepKeeps Saved
    → TablesTypeExecuteScript → IsTable e.table → IsWorld w → AllMeet e.table scripts tables → AnswersTyped e → IsSafeFrame scripts tables m.running → m.waiting ≡ [] → m.running.self ≤ count w
    → SoFar scripts e tables limit (state m w) 0 (state m w)
run_begins scripts e tables limit m w steps engine no_script too_deep types table world meets typed safe alone caller =
    begins scripts e tables limit (state m w) (grounds_are scripts e tables w steps engine no_script too_deep types table meets typed)
    (record { running = safe; waiting = subst (AreSafeFrames scripts tables) (sym alone) tt; world = Unchanged })
    (record { running = caller; waiting = subst (AllObjects (count w)) (sym alone) tt })
    world

-- ---- how it ends

is_run : (ran : answers.Ran) (n self : ℕ) (r : Ran (World Saved)) (ending : Ending) (s : State (World Saved)) (scripts : List Script) (tables : Tables) (w v : World Saved)
    → r ≡ record { ending = ending; count = n; last = s } → EndsAs ran ending → self ≡ s.running.self → v ≡ s.world
    → (StatesFit scripts tables w → StatesFit scripts tables s.world) → IsLeft n w s.world
    → ((fact : Type 0) → fact → WhereRan ran fact) → IsRunOf ran n self r scripts tables w v
is_run ran n self r ending s scripts tables w v is ends own world fit left told = record {
  ending = subst (EndsAs ran) (sym (ap (λ (r : Ran (World Saved)). r.ending) is)) ends;
  counted = told _ (sym (ap (λ (r : Ran (World Saved)). r.count) is));
  own = told _ (own ∙ sym (ap (λ (r : Ran (World Saved)). r.last.running.self) is));
  world = told _ (world ∙ sym (ap (λ (r : Ran (World Saved)). r.last.world) is));
  fit = told _ (λ f. subst (StatesFit scripts tables) (sym world) (fit f));
  left = told _ (subst (IsLeft n w) (sym world) left);
}

pub ended_run : (scripts : List Script) (e : EngineView) (tables : Tables) (limit : ℕ) (m first : Frames)
    (w v u : World Saved) (done self : ℕ) → SoFar scripts e tables limit (state first w) done (state m v) → done < limit
    → step (host scripts e) (state m v) ≡ Some Ends → self ≡ m.running.self → u ≡ v
    → IsRunOf answer.Ended (done + 1) self (run (host scripts e) limit (state first w)) scripts tables w u
ended_run scripts e tables limit m first w v u done self x less h own world =
    is_run answer.Ended (done + 1) self (run (host scripts e) limit (state first w)) Over (state m v) scripts tables w u
    (ends scripts e tables limit (state first w) done (state m v) x less h) refl own world
    (reached_fits scripts e tables w v x.safe.world) (more_left done (done + 1) w v (omega arith) x.left) (λ fact f. f)

pub divided_run : (scripts : List Script) (e : EngineView) (tables : Tables) (limit : ℕ) (m first : Frames)
    (w v u : World Saved) (done self : ℕ) → SoFar scripts e tables limit (state first w) done (state m v) → done < limit
    → step (host scripts e) (state m v) ≡ Some Divided → self ≡ m.running.self → u ≡ v
    → IsRunOf answer.Divide (done + 1) self (run (host scripts e) limit (state first w)) scripts tables w u
divided_run scripts e tables limit m first w v u done self x less h own world =
    is_run answer.Divide (done + 1) self (run (host scripts e) limit (state first w)) ZeroDivisor
    (state m v) scripts tables w u
    (divides scripts e tables limit (state first w) done (state m v) x less h) refl own world
    (reached_fits scripts e tables w v x.safe.world) (more_left done (done + 1) w v (omega arith) x.left) (λ fact f. f)

pub stopped_run : (scripts : List Script) (e : EngineView) (tables : Tables) (limit : ℕ) (m first : Frames)
    (w v : World Saved) (done self : ℕ) → SoFar scripts e tables limit (state first w) done (state m v) → done ≡ limit
    → self ≡ m.running.self → IsRunOf answer.Limit limit self (run (host scripts e) limit (state first w)) scripts tables w v
stopped_run scripts e tables limit m first w v done self x h own =
    is_run answer.Limit limit self (run (host scripts e) limit (state first w)) OutOfInstructions
    (state m v) scripts tables w v (stops scripts e tables limit (state first w) done (state m v) x h) refl own refl
    (reached_fits scripts e tables w v x.safe.world) (more_left done limit w v (omega (arith, h)) x.left) (λ fact f. f)

-- the last state of a run that ended before its end is the one in which the frames and the world are left
pub divided_last : (scripts : List Script) (e : EngineView) (tables : Tables) (limit : ℕ) (m k first : Frames)
    (w v u : World Saved) (done : ℕ) → SoFar scripts e tables limit (state first w) done (state m v) → done < limit
    → step (host scripts e) (state m v) ≡ Some Divided → k ≡ m → u ≡ v
    → state k u ≡ (run (host scripts e) limit (state first w)).last
divided_last scripts e tables limit m k first w v u done x less h frames world =
    ap (λ m. state m u) frames ∙ ap (state m) world
    ∙ sym (ap (λ (r : Ran (World Saved)). r.last) (divides scripts e tables limit (state first w) done (state m v) x less h))

pub stopped_last : (scripts : List Script) (e : EngineView) (tables : Tables) (limit : ℕ) (m first : Frames)
    (w v : World Saved) (done : ℕ) → SoFar scripts e tables limit (state first w) done (state m v) → done ≡ limit
    → state m v ≡ (run (host scripts e) limit (state first w)).last
stopped_last scripts e tables limit m first w v done x h =
    sym (ap (λ (r : Ran (World Saved)). r.last) (stops scripts e tables limit (state first w) done (state m v) x h))

pub cut_run : (n self : ℕ) (r : Ran (World Saved)) (scripts : List Script) (tables : Tables) (w v : World Saved) → IsRunOf answer.NoMemory n self r scripts tables w v
cut_run n self r scripts tables w v = record { ending = tt; counted = tt; own = tt; world = tt; fit = tt; left = tt }

pub ruleset run_lemmas = (own_inside, still_early, cut_run)
