-- A run that is stopped has told a beginning of what a longer one tells; one that isn't is the
-- longer one.
use Rattle.std.proofs.Common.{arith, ◌≡◌, ℕ, zero, suc, ◌+◌, Option, None, Some, refl, subst, ap}
use Rattle.world_rules.specs.World.{World}
use Rattle.saved_state.specs.declared.saved.Saved.{Saved}
use Rattle.machine_rules.specs.Machine.{Next, Goes, Ends, Divided, step}
use Rattle.machine_rules.specs.Runs.{Ran, OutOfInstructions, one_step_longer, after_step, run}
use Rattle.source_meaning.specs.Scripts.{Setting}
use Rattle.source_laws.specs.Ledger.{Machine, MachineHost}
use Rattle.source_laws.specs.Executing.{IsHostOf}
use Rattle.play_meaning.specs.Together.{IsFirstPartOf}
use Rattle.play_meaning.proofs.Beginnings.{whole_begins, begins_then}
use Rattle.play_meaning.proofs.Growing.{step_grows}

-- a run with a limit, and a longer one
pub record Earlier (limit : ℕ) (short long : Ran (World Saved)) : Type 0 where
  pub ends : (short.ending ≡ OutOfInstructions → ⊥) → short ≡ long
  pub count : short.ending ≡ OutOfInstructions → short.count ≡ limit
  pub told : short.ending ≡ OutOfInstructions → IsFirstPartOf short.last.world.trace long.last.world.trace

module _ (s : Setting) (host : MachineHost) (of : IsHostOf host s) where
  after_grows : (n : ℕ) (m : Machine) → ((t : Machine) → IsFirstPartOf t.world.trace (run host n t).last.world.trace)
      → (next : Option (Next (World Saved))) → step host m ≡ next → IsFirstPartOf m.world.trace (after_step next m (run host n)).last.world.trace
  after_grows n m rest None is = whole_begins m.world.trace
  after_grows n m rest (Some (Goes t)) is = begins_then (step_grows s host of m t is) (rest t)
  after_grows n m rest (Some Ends) is = whole_begins m.world.trace
  after_grows n m rest (Some Divided) is = whole_begins m.world.trace

  pub run_grows : (n : ℕ) (m : Machine) → IsFirstPartOf m.world.trace (run host n m).last.world.trace
  run_grows zero m = whole_begins m.world.trace
  run_grows (suc n) m = after_grows n m (run_grows n) (step host m) refl

  further_on : (limit : ℕ) (short long : Ran (World Saved)) → Earlier limit short long → Earlier (suc limit) (one_step_longer short) (one_step_longer long)
  further_on limit short long h = record { ends = λ goes. ap one_step_longer (h.ends goes); count = λ stops. ap suc (h.count stops); told = h.told }

  after_earlier : (n more : ℕ) (m : Machine) → ((t : Machine) → Earlier n (run host n t) (run host (n + more) t))
      → (next : Option (Next (World Saved))) → Earlier (suc n) (after_step next m (run host n)) (after_step next m (run host (n + more)))
  after_earlier n more m rest None = record { ends = λ goes. refl; count = λ stops. absurd cc; told = λ stops. absurd cc }
  after_earlier n more m rest (Some (Goes t)) = further_on n (run host n t) (run host (n + more) t) (rest t)
  after_earlier n more m rest (Some Ends) = record { ends = λ goes. refl; count = λ stops. absurd cc; told = λ stops. absurd cc }
  after_earlier n more m rest (Some Divided) = record { ends = λ goes. refl; count = λ stops. absurd cc; told = λ stops. absurd cc }

  one_more : (n more : ℕ) → suc (n + more) ≡ suc n + more
  one_more n more = omega arith

  pub earlier : (n more : ℕ) (m : Machine) → Earlier n (run host n m) (run host (n + more) m)
  earlier zero more m = record { ends = λ goes. absurd (goes refl); count = λ stops. refl; told = λ stops. run_grows (zero + more) m }
  earlier (suc n) more m = subst (λ (k : ℕ). Earlier (suc n) (run host (suc n) m) (run host k m)) (one_more n more)
      (after_earlier n more m (λ t. earlier n more t) (step host m))
