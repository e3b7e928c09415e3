-- Runs with greater limits, and how many scripts wait.
use Rattle.std.proofs.Common.{arith, ◌≡◌, ◌≤◌, ◌+◌, ℕ, zero, suc, List, [], ◌∷◌, length, Option, Some, None, Bool, true, false, sym, subst, ◌∙◌, ap, refl, zero-add}
use Rattle.std.specs.Prelude.{nat_lt}
use Rattle.std.specs.Option.{option_map, option_and_then}
use Rattle.std.proofs.lemmas.Bool.Decides.{nat_tests}
use Rattle.ncs_code.specs.Plain.{PlainOp}
use Rattle.machine_rules.specs.Frames.{Frame}
use Rattle.machine_rules.specs.Act.{Act, Moves, Asks, Executes, Returns, Divides, act}
use Rattle.machine_rules.specs.Machine.{Host, State, Next, Goes, Ends, Divided, waiting_limit, script_named, script_begun, executed, over, followed, next_op, step}
use Rattle.machine_rules.specs.Runs.{Ending, Over, ZeroDivisor, OutOfInstructions, StackFault, Ran, one_step_longer, after_step, run}
use Rattle.machine_rules.specs.Laws.{FewWait, CountsInstructions, run_on, RunsGoOn}

-- ---- counts

-- a run of at most so many instructions, and of as many where it is out of them
abbrev IsCounted : {W : Type 0} → ℕ → Ran W → Type 0
IsCounted limit r = (r.count ≤ limit) × (r.ending ≡ OutOfInstructions → r.count ≡ limit)

step_counted : {W : Type 0} (limit : ℕ) (next : Option (Next W)) (s : State W) (go : State W → Ran W)
    → ((t : State W) → IsCounted limit (go t)) → IsCounted (suc limit) (after_step next s go)
step_counted limit None s go h = (omega arith, λ e. absurd cc)
step_counted limit (Some (Goes t)) s go h = let k = h t in (omega (arith, k.0), λ e. ap suc (k.1 e))
step_counted limit (Some Ends) s go h = (omega arith, λ e. absurd cc)
step_counted limit (Some Divided) s go h = (omega arith, λ e. absurd cc)

pub counts_instructions : {W : Type 0} → CountsInstructions W
counts_instructions host zero s = (omega arith, λ e. refl)
counts_instructions host (suc limit) s = step_counted limit (step host s) s (run host limit) (counts_instructions host limit)

-- ---- greater limits

-- a run that goes on, counted once more
counted_on : {W : Type 0} (host : Host W) (more : ℕ) (ending : Ending) (r : Ran W) → one_step_longer (run_on host more ending r) ≡ run_on host more ending (one_step_longer r)
counted_on host more Over r = refl
counted_on host more ZeroDivisor r = refl
counted_on host more OutOfInstructions r = ap (λ (n : ℕ). record (run host more r.last) { count = n }) (suc_more r.count (run host more r.last).count)
  where
    suc_more : (m n : ℕ) → suc (m + n) ≡ suc m + n
    suc_more m n = omega arith
counted_on host more StackFault r = refl

step_goes_on : {W : Type 0} (host : Host W) (limit more : ℕ) (next : Option (Next W)) (s : State W)
    → ((t : State W) → run host (limit + more) t ≡ run_on host more (run host limit t).ending (run host limit t))
    → after_step next s (run host (limit + more)) ≡ run_on host more (after_step next s (run host limit)).ending (after_step next s (run host limit))
step_goes_on host limit more None s h = refl
step_goes_on host limit more (Some (Goes t)) s h = ap one_step_longer (h t) ∙ counted_on host more (run host limit t).ending (run host limit t)
step_goes_on host limit more (Some Ends) s h = refl
step_goes_on host limit more (Some Divided) s h = refl

from_none : {W : Type 0} (r : Ran W) (m : ℕ) → m ≡ r.count → r ≡ record r { count = m }
from_none r m e = ap (λ (n : ℕ). record r { count = n }) (sym e)

suc_first : (limit more : ℕ) → suc (limit + more) ≡ suc limit + more
suc_first limit more = omega arith

pub runs_go_on : {W : Type 0} → RunsGoOn W
runs_go_on host zero more s = subst (λ (n : ℕ). run host n s ≡ run_on host more OutOfInstructions (run host zero s)) (sym (zero-add more))
    (from_none (run host more s) (0 + (run host more s).count) (zero-add (run host more s).count))
runs_go_on host (suc limit) more s = subst (λ (n : ℕ). run host n s ≡ run_on host more (run host (suc limit) s).ending (run host (suc limit) s)) (suc_first limit more)
    (step_goes_on host limit more (step host s) s (λ t. runs_go_on host limit more t))

-- ---- how many scripts wait

-- those that wait after a step
abbrev left_waiting : {W : Type 0} → Next W → List Frame
left_waiting (Goes t) = t.waiting
left_waiting Ends = []
left_waiting Divided = []

few_begun : {W : Type 0} (host : Host W) (number : Option ℕ) (name : List ℕ) (target : ℕ) (f : Frame) (s : State W) → length s.waiting ≤ waiting_limit
    → length (script_begun host number name target f s).waiting ≤ waiting_limit
few_begun host None name target f s h = h
few_begun {W} host (Some script) name target f s h = on (nat_lt (length s.waiting) waiting_limit) refl
  where
    on : (b : Bool) → nat_lt (length s.waiting) waiting_limit ≡ b → length (script_begun host (Some script) name target f s).waiting ≤ waiting_limit
    on true e = rw e (room e)
      where
        room : nat_lt (length s.waiting) waiting_limit ≡ true → suc (length s.waiting) ≤ waiting_limit
        room e = grind (arith, nat_tests)
    on false e = rw e h

few_executed : {W : Type 0} (host : Host W) (name : List ℕ) (target : ℕ) (f : Frame) (s : State W) → length s.waiting ≤ waiting_limit
    → length (executed host name target f s).waiting ≤ waiting_limit
few_executed host [] target f s h = h
few_executed {W} host (b ∷ name) target f s h = on (host.may_run f.self target s.world) refl
  where
    on : (c : Bool) → host.may_run f.self target s.world ≡ c → length (executed host (b ∷ name) target f s).waiting ≤ waiting_limit
    on true e = rw e (few_begun host (script_named host.scripts (b ∷ name)) (b ∷ name) target f s h)
    on false e = rw e h

few_over : {W : Type 0} (waiting : List Frame) (s : State W) → length waiting ≤ waiting_limit → length (left_waiting (over waiting s)) ≤ waiting_limit
few_over [] s h = omega arith
few_over (f ∷ waiting) s h = omega (arith, h)

few_followed : {W : Type 0} (host : Host W) (s : State W) (a : Act) → length s.waiting ≤ waiting_limit → length (left_waiting (followed host s a)) ≤ waiting_limit
few_followed host s (Moves f) h = h
few_followed host s (Asks routine values action f) h = h
few_followed host s (Executes name target f) h = few_executed host name target f s h
few_followed host s Returns h = few_over s.waiting s h
few_followed host s Divides h = omega arith

-- the act that a step follows
abbrev Followed : {W : Type 0} → Host W → State W → Next W → Type 0
Followed host s next = (a : Act) × (followed host s a ≡ next)

from_act : {W : Type 0} (host : Host W) (s : State W) (a : Option Act) (next : Next W) → option_map (followed host s) a ≡ Some next → Followed host s next
from_act host s None next h = absurd cc
from_act host s (Some a) next h = (a, cc)

from_op : {W : Type 0} (host : Host W) (s : State W) (op : Option PlainOp) (next : Next W)
    → option_and_then (λ op. option_map (followed host s) (act host.table op s.running)) op ≡ Some next → Followed host s next
from_op host s None next h = absurd cc
from_op host s (Some op) next h = from_act host s (act host.table op s.running) next h

from_step : {W : Type 0} (host : Host W) (s : State W) (next : Next W) → step host s ≡ Some next → Followed host s next
unfolding step
from_step host s next h = from_op host s (next_op host.scripts s.running) next h

pub few_wait : {W : Type 0} → FewWait W
few_wait {W} host s t h e = let f = from_step host s (Goes t) e in
    subst (λ (next : Next W). length (left_waiting next) ≤ waiting_limit) f.1 (few_followed host s f.0 h)
