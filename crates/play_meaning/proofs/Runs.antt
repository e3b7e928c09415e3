-- The runs of an entry's scripts, as the two players count them.
use Rattle.std.proofs.Common.{arith, ◌≡◌, ◌≤◌, ◌+◌, ◌-◌, ◌*◌, ℕ, List, refl, sym, subst, ap, ◌∙◌}
use Rattle.nwq_value.specs.declared.value.Value.{Value}
use Rattle.saved_state.specs.declared.saved.Saved.{Saved}
use Rattle.world_rules.specs.World.{World}
use Rattle.world_rules.specs.Alike.{Alike}
use Rattle.machine_rules.specs.Runs.{Ran, Over, ZeroDivisor, OutOfInstructions, StackFault, run}
use Rattle.machine_rules.specs.Runs as runs
use Rattle.world_rules.specs.Plays.{Stopped, Run}
use Rattle.world_rules.specs.Plays as plays
use Rattle.module_player.specs.CodePlays.{ending_of}
use Rattle.module_player.specs.CodePlays as code
use Rattle.source_meaning.specs.Evaluation.{Deferred, Progress, Outcome, Gives, Divides, OutOfSteps}
use Rattle.source_meaning.specs.Scripts.{Setting}
use Rattle.source_meaning.specs.Plays as source
use Rattle.source_laws.specs.Ledger.{Machine, MachineHost, later, step_cost}
use Rattle.source_laws.specs.Executing.{IsHostOf}
use Rattle.source_laws.specs.Entries.{EndsAs, EntryRuns}
use Rattle.play_meaning.specs.Together.{IsFirstPartOf, RunsAlike, RunEnds, RunStops}
use Rattle.play_meaning.proofs.Earlier.{Earlier, earlier}

module _ (host : MachineHost) (R : Saved → Deferred → Type 0) (traces : (w : World Saved) (v : World Deferred) → Alike R w v → w.trace ≡ v.trace) where
  -- ---- where the evaluation ends

  steps_few : (count left n : ℕ) → left ≤ n → count + step_cost * left ≤ step_cost * n → count ≤ step_cost * (n - left)
  steps_few count left n spent few = omega (arith, spent, few)

  steps_paid : (count left n : ℕ) → n ≤ left + count → n - left ≤ count
  steps_paid count left n paid = omega (arith, paid)

  given_alike : (n : ℕ) (m : Machine) (v : List Value) (p : Progress) (e : EndsAs host R n Over m p)
      → RunsAlike R (code.run_of (record { ending = Over; count = e.count; last = e.last })) (source.run_of n (Gives v p))
  given_alike n m v p e = record { ending = refl; world = e.alike; paid = steps_paid e.count p.left n e.paid; few = steps_few e.count p.left n e.spent e.few }

  divided_alike : (n self : ℕ) (m : Machine) (p : Progress) (e : EndsAs host R n ZeroDivisor m p) → e.last.running.self ≡ self
      → RunsAlike R (code.run_of (record { ending = ZeroDivisor; count = e.count; last = e.last })) (source.run_of n (Divides self p))
  divided_alike n self m p e is = record { ending = ap plays.Divided is; world = e.alike; paid = steps_paid e.count p.left n e.paid; few = steps_few e.count p.left n e.spent e.few }

  -- a limit that is enough
  enough : (limit n : ℕ) (count left : ℕ) → step_cost * n ≤ limit → count + step_cost * left ≤ step_cost * n → count + (limit - count) ≡ limit
  enough limit n count left large few = omega (arith, large, few)

  pub run_ends : (n limit : ℕ) → step_cost * n ≤ limit → (m : Machine) (r : Outcome (List Value)) → EntryRuns host R n m r
      → RunEnds R (code.run_of (run host limit m)) (source.run_of n r)
  run_ends n limit large m (Gives v p) e goes =
      subst (λ a. RunsAlike R (code.run_of a) (source.run_of n (Gives v p)))
      (sym (e.is (limit - e.count)) ∙ ap (λ (k : ℕ). run host k m) (enough limit n e.count p.left large e.few)) (given_alike n m v p e)
  run_ends n limit large m (Divides self p) e goes =
      subst (λ a. RunsAlike R (code.run_of a) (source.run_of n (Divides self p)))
      (sym (e.0.is (limit - e.0.count)) ∙ ap (λ (k : ℕ). run host k m) (enough limit n e.0.count p.left large e.0.few)) (divided_alike n self m p e.0 e.1)
  run_ends n limit large m (OutOfSteps p) e goes = absurd (goes refl)

  -- ---- where the code's run ends

  -- a run with a limit against a longer one, which meets no stack fault
  stops_so : (limit : ℕ) (short long : Ran (World Saved)) (r : Run Deferred) → Earlier limit short long → (long.ending ≡ StackFault → ⊥) → long.last.world.trace ≡ r.world.trace
      → ((long.ending ≡ OutOfInstructions → ⊥) → RunsAlike R (code.run_of long) r) → RunStops R limit (code.run_of short) r
  stops_so limit short long r h sound same alike = record {
    ends = λ goes.
        let on : short.ending ≡ OutOfInstructions → ⊥ = λ is. goes (ap (λ e. ending_of e short.last.running.self) is) in
        subst (λ a. RunsAlike R (code.run_of a) r) (sym (h.ends on)) (alike (λ is. on (ap (λ a. a.ending) (h.ends on) ∙ is)));
    count = λ is. h.count (stopped short.ending refl is);
    told = λ is. subst (λ t. IsFirstPartOf short.last.world.trace t) same (h.told (stopped short.ending refl is));
  }
    where
      stopped : (e : runs.Ending) → short.ending ≡ e → ending_of e short.last.running.self ≡ Stopped → short.ending ≡ OutOfInstructions
      stopped Over is stops = absurd cc
      stopped ZeroDivisor is stops = absurd cc
      stopped OutOfInstructions is stops = is
      stopped StackFault is stops =
          let goes : short.ending ≡ OutOfInstructions → ⊥ = λ out. absurd cc in
          absurd (sound (sym (ap (λ a. a.ending) (h.ends goes)) ∙ is))

  both_ways : (a b : ℕ) → b + a ≡ a + b
  both_ways a b = omega arith

  as_long : (limit count : ℕ) → limit ≤ count → count + 0 ≡ limit + (count - limit)
  as_long limit count h = omega (arith, h)

  pub run_stops : (s : Setting) → IsHostOf host s → (limit : ℕ) (m : Machine) (r : Outcome (List Value)) → EntryRuns host R limit m r
      → RunStops R limit (code.run_of (run host limit m)) (source.run_of limit r)
  run_stops s of limit m (Gives v p) e =
      let long : Ran (World Saved) = record { ending = Over; count = e.count; last = e.last } in
      stops_so limit (run host limit m) long (source.run_of limit (Gives v p))
      (subst (Earlier limit (run host limit m)) (ap (λ (k : ℕ). run host k m) (both_ways e.count limit) ∙ e.is limit) (earlier s host of limit e.count m))
      (λ is. absurd cc) (traces e.last.world p.world e.alike) (λ on. given_alike limit m v p e)
  run_stops s of limit m (Divides self p) e =
      let long : Ran (World Saved) = record { ending = ZeroDivisor; count = e.0.count; last = e.0.last } in
      stops_so limit (run host limit m) long (source.run_of limit (Divides self p))
      (subst (Earlier limit (run host limit m)) (ap (λ (k : ℕ). run host k m) (both_ways e.0.count limit) ∙ e.0.is limit) (earlier s host of limit e.0.count m))
      (λ is. absurd cc) (traces e.0.last.world p.world e.0.alike) (λ on. divided_alike limit self m p e.0 e.1)
  run_stops s of limit m (OutOfSteps p) e =
      let long : Ran (World Saved) = later e.count (run host 0 e.state) in
      stops_so limit (run host limit m) long (source.run_of limit (OutOfSteps p))
      (subst (Earlier limit (run host limit m)) (ap (λ (k : ℕ). run host k m) (sym (as_long limit e.count e.paid)) ∙ e.is 0) (earlier s host of limit (e.count - limit) m))
      (λ is. absurd cc) (traces e.state.world p.world e.alike) (λ on. absurd (on refl))
