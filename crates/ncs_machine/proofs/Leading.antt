-- Runs lead worlds on by calls alone: so does each step.
use Rattle.std.proofs.Common.{◌≡◌, ◌≤◌, ℕ, zero, suc, List, Option, Some, None, sym, subst, refl}
use Rattle.saved_state.specs.declared.saved.Saved.{Saved}
use Rattle.machine_rules.specs.Frames.{started, continued}
use Rattle.machine_rules.specs.Machine.{Script, State, Next, Goes, Ends, Divided, step}
use Rattle.machine_rules.specs.Runs.{Ran, after_step, run, entry}
use Rattle.world_rules.specs.World.{World, count}
use Rattle.world_rules.specs.Kept.{IsWorld}
use Rattle.world_rules.specs.Settled.{IsLed, led_nowhere}
use Rattle.ncs_machine.specs.declared.scripts.Begin.{Begin}
use Rattle.ncs_machine.specs.declared.scripts.Begin.TheVariants.{Start, Stored}
use Rattle.ncs_machine.specs.Host.{EngineView, host, run_from}
use Rattle.ncs_machine.specs.Leading.{RunsLead}
use Rattle.ncs_machine.proofs.Kept.{AreObjects, WorldLaws, step_leaves}

-- wherever a run stands that has led a world on, it leads on from there
abbrev Leads : (State (World Saved) → Ran (World Saved)) → Type 0
Leads go = (first : World Saved) (s : State (World Saved)) → IsLed first s.world → AreObjects (count first) s → IsLed first (go s).last.world

module _ (laws : WorldLaws) (scripts : List Script) (e : EngineView) where
  step_leads : (next : Option (Next (World Saved))) (first : World Saved) (s : State (World Saved)) (go : State (World Saved) → Ran (World Saved))
      → step (host scripts e) s ≡ next → Leads go → IsLed first s.world → AreObjects (count first) s → IsLed first (after_step next s go).last.world
  step_leads None first s go is leads l o = l
  step_leads (Some (Goes t)) first s go is leads l o =
      let k = step_leaves laws scripts e s t is in
      leads first t (k.led first l (subst (λ n. s.running.self ≤ n) (sym l.objects) o.running)) (k.objects (count first) l.objects o)
  step_leads (Some Ends) first s go is leads l o = l
  step_leads (Some Divided) first s go is leads l o = l

  run_leads : (limit : ℕ) → Leads (run (host scripts e) limit)
  run_leads zero first s l o = l
  run_leads (suc limit) first s l o = step_leads (step (host scripts e) s) first s (run (host scripts e) limit) refl (run_leads limit) l o

  begins_leading : (limit script : ℕ) (begin : Begin) (self : ℕ) (w : World Saved) → IsWorld w → self ≤ count w
      → IsLed w (run_from (host scripts e) limit script begin self w).last.world
  begins_leading limit script Start self w h most =
      run_leads limit w (entry (started script self) w) (led_nowhere w h) (record { running = most; waiting = tt })
  begins_leading limit script (Stored saved) self w h most =
      run_leads limit w (entry (continued saved self) w) (led_nowhere w h) (record { running = most; waiting = tt })

pub runs_lead : WorldLaws → RunsLead
runs_lead laws scripts e = begins_leading laws scripts e
