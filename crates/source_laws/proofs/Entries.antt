-- An entry's run does what the entry means.
use Rattle.std.proofs.Common.{arith, ◌≡◌, ◌+◌, ℕ, suc, List, [], Some, sym, subst, ◌∙◌, ap, refl}
use Rattle.nwq_value.specs.declared.value.Value.{Value}
use Rattle.saved_state.specs.declared.saved.Saved.{Saved}
use Rattle.world_rules.specs.Alike.{Alike}
use Rattle.machine_rules.specs.Frames.{started as begun_frame, continued}
use Rattle.machine_rules.specs.Machine.{Ends, Divided, waiting_limit, step}
use Rattle.machine_rules.specs.Runs.{Ending, Over, ZeroDivisor, run, after_step, entry}
use Rattle.source_meaning.specs.Evaluation.{Deferred, Progress, Outcome, Gives, Divides, OutOfSteps}
use Rattle.source_meaning.specs.Scripts.{first_starter, call_resumed, with_steps, run_script, run_deferred}
use Rattle.source_laws.specs.Ledger.{Machine, MachineHost, later, Took, Sim}
use Rattle.source_laws.specs.Carries.{Carries}
use Rattle.source_laws.specs.Executing.{start_state, IsAtLast, last_state}
use Rattle.source_laws.specs.Entries.{EndsAs, EntryRuns, EntriesDo}
use Rattle.source_laws.proofs.Executing.{same_named, named_listed, started_is, scripts_execute}

module _ (host : MachineHost) (R : Saved → Deferred → Type 0) where
  one_first : (k : ℕ) → 1 + k ≡ suc k
  one_first k = omega arith

  regrouped : (n more : ℕ) → n + 1 + more ≡ n + (1 + more)
  regrouped n more = omega arith

  -- the last instruction of a run
  over_runs : (t : Machine) → step host t ≡ Some Ends → (more : ℕ) → run host (1 + more) t ≡ record { ending = Over; count = 1; last = t }
  over_runs t h more = ap (λ (k : ℕ). run host k t) (one_first more) ∙ ap (λ next. after_step next t (run host more)) h

  divided_runs : (t : Machine) → step host t ≡ Some Divided → (more : ℕ) → run host (1 + more) t ≡ record { ending = ZeroDivisor; count = 1; last = t }
  divided_runs t h more = ap (λ (k : ℕ). run host k t) (one_first more) ∙ ap (λ next. after_step next t (run host more)) h

  ends_as : (n : ℕ) (ending : Ending) (m : Machine) (p : Progress) (t : Machine) → Took host n 0 m p.left 1 t
      → ((more : ℕ) → run host (1 + more) t ≡ record { ending = ending; count = 1; last = t }) → Alike R t.world p.world → EndsAs host R n ending m p
  ends_as n ending m p t took last alike = record {
    count = took.count + 1;
    last = t;
    is = λ more. ap (λ (k : ℕ). run host k m) (regrouped took.count more) ∙ took.goes (1 + more) ∙ ap (later took.count) (last more);
    alike = alike;
    spent = took.spent;
    paid = let a = took.paid in omega (arith, a);
    few = let a = took.few in omega (arith, a);
  }

  pub entry_runs : (n : ℕ) (m : Machine) (r : Outcome (List Value)) → Sim host R (IsAtLast host R []) (last_state host R []) n 0 m (λ v. 1) r → EntryRuns host R n m r
  unfolding ends_as
  entry_runs n m (Gives v p) h = ends_as n Over m p h.0.state h.1 (over_runs h.0.state h.0.ends) h.0.alike
  entry_runs n m (Divides self p) h = (ends_as n ZeroDivisor m p h.0 h.1 (divided_runs h.0 h.2) h.4, h.3)
  entry_runs n m (OutOfSteps p) h = record {
    count = h.1.count;
    state = h.0;
    is = h.1.goes;
    alike = h.2;
    paid = let a = h.1.paid in omega (arith, a);
    few = let a = h.1.few in omega (arith, a);
  }

pub entries_do : EntriesDo
entries_do s host of starts resumes = record {
  named = λ name. same_named name host.scripts s.scripts of.scripts;
  listed = λ name script is. named_listed s.scripts name script is;
  starts = λ n script self l w v is alike. entry_runs host (Carries s) n (entry (begun_frame script self) w) (run_script s n script self v)
      (subst (Sim host (Carries s) (IsAtLast host (Carries s) []) (last_state host (Carries s) []) n 0 (start_state script self [] w) (λ v. 1))
      (sym (started_is s waiting_limit script self l (with_steps n v) is))
      (starts script l is (first_starter s) self [] (with_steps n v) w (scripts_execute s host of starts waiting_limit self [] refl) alike));
  resumes = λ n self c d w v carries alike. entry_runs host (Carries s) n (entry (continued c self) w) (run_deferred s n d self v)
      (subst (λ o. Sim host (Carries s) (IsAtLast host (Carries s) []) (last_state host (Carries s) []) n 0 (entry (continued c self) w) (λ v. 1) (call_resumed s d self o (with_steps n v)))
      (sym carries.is)
      (resumes c d carries.listed self (with_steps n v) w carries carries.is
      (scripts_execute s host of starts waiting_limit self [] refl) alike));
}
