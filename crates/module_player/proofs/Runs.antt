-- Runs of an entry's scripts.
use Rattle.std.proofs.Common.{arith, ◌≡◌, ◌≤◌, ℕ, zero, suc, Option, None, Some, sym, subst, ap}
use Rattle.saved_state.specs.declared.saved.Saved.{Saved}
use Rattle.machine_rules.specs.Machine.{Host, State, Next, Goes, Ends, Divided, step}
use Rattle.machine_rules.specs.Runs as runs
use Rattle.world_rules.specs.World.{World}
use Rattle.ncs_machine.specs.Endings.{IsLeft, IsRunOf}
use Rattle.ncs_machine.specs.Host.{run_from}
use Rattle.ncs_machine.specs.Settings.{CodeSetting, FitIn, host_in, scripts_in, tables_in}
use Rattle.ncs_machine.specs.declared.scripts.Begin.{Begin}
use Rattle.ncs_machine.specs.declared.scripts.Begin.TheVariants.{Start, Stored}
use Rattle.ncs_machine.specs.declared.entry.Ran.{Ran}
use Rattle.ncs_machine.specs.declared.entry.Ran.TheVariants as ran
use Rattle.module_player.specs.declared.scripts.Ended.TheVariants.{Over, Divided, Stopped}
use Rattle.module_player.specs.CodePlays.{ending_of, run_of}
use Rattle.module_player.specs.Entries.{HasRun}

-- ---- a run takes no more instructions than it may

module _ {W : Type 0} (h : Host W) where
  step_within : (n : Option (Next W)) (s : State W) (limit : ℕ) (go : State W → runs.Ran W) → ((t : State W) → (go t).count ≤ limit)
      → (runs.after_step n s go).count ≤ suc limit
  step_within None s limit go within = omega arith
  step_within (Some (Goes t)) s limit go within = let k = within t in omega arith
  step_within (Some Ends) s limit go within = omega arith
  step_within (Some Divided) s limit go within = omega arith

  run_within : (limit : ℕ) (s : State W) → (runs.run h limit s).count ≤ limit
  run_within zero s = omega arith
  run_within (suc limit) s = step_within (step h s) s limit (runs.run h limit) (run_within limit)

entry_within : (s : CodeSetting) (limit script o : ℕ) (begin : Begin) (w : World Saved) → (run_from (host_in s) limit script begin o w).count ≤ limit
entry_within s limit script o Start w = run_within (host_in s) limit _
entry_within s limit script o (Stored x) w = run_within (host_in s) limit _

-- ---- what its answer tells

left_within : (n limit : ℕ) (w v : World Saved) → n ≤ limit → IsLeft n w v → IsLeft limit w v
left_within n limit w v less l = record {
  objects = l.objects;
  clock = l.clock;
  no_less = l.no_less;
  few = let k = l.few in omega arith;
  acting = l.acting;
}

told_is : (r : runs.Ran (World Saved)) (ending : runs.Ending) (n self : ℕ) (v : World Saved) → r.ending ≡ ending → n ≡ r.count → self ≡ r.last.running.self → v ≡ r.last.world
    → run_of r ≡ record { ending = ending_of ending self; count = n; world = v }
told_is r ending n self v a b c d = rw (b, c, d) (ap (λ e. record { ending = ending_of e r.last.running.self; count = r.count; world = r.last.world }) a)

module _ (s : CodeSetting) (limit script o : ℕ) (begin : Begin) (n self : ℕ) (w v : World Saved) where
  abbrev Told : Ran → Type 0
  Told answer = IsRunOf answer n self (run_from (host_in s) limit script begin o w) (scripts_in s) (tables_in s) w v

  within : n ≡ (run_from (host_in s) limit script begin o w).count → n ≤ limit
  within e = subst (λ m. m ≤ limit) (sym e) (entry_within s limit script o begin w)

  over_run : FitIn s w → Told ran.Ended → HasRun s limit Over n (run_of (run_from (host_in s) limit script begin o w)) w v
  over_run f t = record {
    is = told_is (run_from (host_in s) limit script begin o w) runs.Over n self v t.ending t.counted t.own t.world;
    within = within t.counted;
    fit = t.fit f;
    left = left_within n limit w v (within t.counted) t.left;
  }

  pub over_told : (answer : Ran) → answer ≡ ran.Ended → FitIn s w → Told answer → HasRun s limit Over n (run_of (run_from (host_in s) limit script begin o w)) w v
  over_told answer is f t = over_run f (subst Told is t)

  divided_run : FitIn s w → Told ran.Divide → HasRun s limit (Divided self) n (run_of (run_from (host_in s) limit script begin o w)) w v
  divided_run f t = record {
    is = told_is (run_from (host_in s) limit script begin o w) runs.ZeroDivisor n self v t.ending t.counted t.own t.world;
    within = within t.counted;
    fit = t.fit f;
    left = left_within n limit w v (within t.counted) t.left;
  }

  pub divided_told : (answer : Ran) → answer ≡ ran.Divide → FitIn s w → Told answer → HasRun s limit (Divided self) n (run_of (run_from (host_in s) limit script begin o w)) w v
  divided_told answer is f t = divided_run f (subst Told is t)

  stopped_run : FitIn s w → Told ran.Limit → HasRun s limit Stopped n (run_of (run_from (host_in s) limit script begin o w)) w v
  stopped_run f t = record {
    is = told_is (run_from (host_in s) limit script begin o w) runs.OutOfInstructions n self v t.ending t.counted t.own t.world;
    within = within t.counted;
    fit = t.fit f;
    left = left_within n limit w v (within t.counted) t.left;
  }

  pub stopped_told : (answer : Ran) → answer ≡ ran.Limit → FitIn s w → Told answer → HasRun s limit Stopped n (run_of (run_from (host_in s) limit script begin o w)) w v
  stopped_told answer is f t = stopped_run f (subst Told is t)

pub ruleset run_lemmas = (over_told, divided_told, stopped_told)
