-- Entries and plays that are cut short.
use Rattle.std.proofs.Common.{◌≡◌, ◌⊎◌, inl, inr, ⊎_elim, ℕ, ℤ, zero, suc, true, false, List, Option, None, Some, Result, Ok, Err, sym, subst, ap, ◌∙◌, refl}
use Rattle.std.specs.Prelude.{OnErr, ◌==◌, length}
use Rattle.delay_agenda.specs.declared.entry.Entry.{Entry}
use Rattle.delay_agenda.specs.declared.entry.Kind.{Kind}
use Rattle.delay_agenda.specs.declared.entry.Kind.TheVariants.{Event, Stored, Turn}
use Rattle.saved_state.specs.declared.saved.Saved.{Saved}
use Rattle.machine_rules.specs.Machine.{Host, State, Next, Goes, Ends, Divided, script_named, step}
use Rattle.machine_rules.specs.Runs as runs
use Rattle.machine_rules.specs.Runs.{entry, run, run_stored}
use Rattle.world_rules.specs.Turns.{Begun, begin, drained, turn, turn_done}
use Rattle.world_rules.specs.World.{World}
use Rattle.world_rules.specs.Plays as plays
use Rattle.world_rules.specs.Plays.{Entered, PlayEnd, Run, entered_as, event_entry, finished, finished_as, further, turn_entry}
use Rattle.ncs_machine.specs.Endings.{IsCut, WhereCut as WhereRunCut}
use Rattle.ncs_machine.specs.declared.entry.Ran.{Ran}
use Rattle.ncs_machine.specs.declared.entry.Ran.TheVariants as ran
use Rattle.ncs_machine.specs.Host.{first_frame, run_from}
use Rattle.ncs_machine.specs.Settings.{CodeSetting, host_in, scripts_in}
use Rattle.ncs_machine.specs.Steps.{IsHalfway, Untouched, Called}
use Rattle.ncs_machine.specs.declared.scripts.Begin.{Begin}
use Rattle.ncs_machine.specs.declared.scripts.Begin.TheVariants as begins
use Rattle.nwq_value.specs.declared.memory.NoMemory.{NoMemory}
use Rattle.module_player.specs.declared.entry.Entered.{Entered as EnteredTold}
use Rattle.module_player.specs.declared.scripts.Ended.{Ended}
use Rattle.module_player.specs.declared.scripts.Ended.TheVariants as ended
use Rattle.module_player.specs.declared.played.How.{How}
use Rattle.module_player.specs.declared.played.How.TheVariants as how
use Rattle.module_player.specs.declared.turn.TurnOutcome.{TurnOutcome}
use Rattle.module_player.specs.declared.turn.TurnOutcome.TheVariants as next
use Rattle.module_player.specs.Answers.{IsLastEnd}
use Rattle.module_player.specs.Cuts.{IsCutAt, IsCutIn, IsDivided, IsRunCut, WhereCut, WhereCutIn, Unbegun, Inside, Over, Told, In}
use Rattle.module_player.specs.CodePlays.{code_runner, ending_of, run_of, runner_in}
use Rattle.module_player.specs.Entries.{HasRun, ending, turn_taken}
use Rattle.module_player.proofs.Entering.{event_is, runner_stored}

-- ---- runs

module _ {W : Type 0} (h : Host W) where
  -- a run that is over after one instruction more leaves the world as it was
  after_one : (o : Option (Next W)) (s : State W)
      → ((runs.after_step o s (run h zero)).ending ≡ runs.OutOfInstructions) ⊎ ((runs.after_step o s (run h zero)).last.world ≡ s.world)
  after_one None s = inr refl
  after_one (Some (Goes t)) s = inl refl
  after_one (Some Ends) s = inr refl
  after_one (Some Divided) s = inr refl

  abbrev Further : ℕ → State W → Type 0
  Further n s = ((run h (suc n) s).ending ≡ runs.OutOfInstructions) ⊎ ((run h (suc n) s).last.world ≡ (run h n s).last.world)

  after_more : (n : ℕ) (o : Option (Next W)) (s : State W) → ((t : State W) → (run h n t).ending ≡ runs.OutOfInstructions → Further n t)
      → (runs.after_step o s (run h n)).ending ≡ runs.OutOfInstructions
      → ((runs.after_step o s (run h (suc n))).ending ≡ runs.OutOfInstructions)
      ⊎ ((runs.after_step o s (run h (suc n))).last.world ≡ (runs.after_step o s (run h n)).last.world)
  after_more n None s go e = inr refl
  after_more n (Some (Goes t)) s go e = go t e
  after_more n (Some Ends) s go e = inr refl
  after_more n (Some Divided) s go e = inr refl

  not_further : (n : ℕ) (s : State W) → (run h n s).ending ≡ runs.OutOfInstructions → Further n s
  not_further zero s e = after_one (step h s) s
  not_further (suc n) s e = after_more n (step h s) s (not_further n) e

  -- the run up to a division
  record IsBefore (s : State W) (world : W) : Type 0 where
    count : ℕ
    ending : (run h count s).ending ≡ runs.OutOfInstructions
    same : world ≡ (run h count s).last.world

  before_more : (limit : ℕ) (s : State W) (o : Option (Next W)) → step h s ≡ o
      → ((t : State W) → (run h limit t).ending ≡ runs.ZeroDivisor → IsBefore t (run h limit t).last.world)
      → (runs.after_step o s (run h limit)).ending ≡ runs.ZeroDivisor → IsBefore s (runs.after_step o s (run h limit)).last.world
  before_more limit s None is go e = absurd cc
  before_more limit s (Some (Goes t)) is go e =
      let b = go t e in
      record {
        count = suc b.count;
        ending = ap (λ o. (runs.after_step o s (run h b.count)).ending) is ∙ b.ending;
        same = b.same ∙ sym (ap (λ o. (runs.after_step o s (run h b.count)).last.world) is);
      }
  before_more limit s (Some Ends) is go e = absurd cc
  before_more limit s (Some Divided) is go e = record { count = 0; ending = refl; same = refl }

  divided_before : (limit : ℕ) (s : State W) → (run h limit s).ending ≡ runs.ZeroDivisor → IsBefore s (run h limit s).last.world
  divided_before zero s e = absurd cc
  divided_before (suc limit) s e = before_more limit s (step h s) refl (divided_before limit) e

run_from_is : (h : Host (World Saved)) (limit script o : ℕ) (begin : Begin) (w : World Saved)
    → run_from h limit script begin o w ≡ run h limit (entry (first_frame script begin o) w)
run_from_is h limit script o begins.Start w = refl
run_from_is h limit script o (begins.Stored x) w = refl

-- ---- scripts that are cut short

stopped_after : (r : runs.Ran (World Saved)) → r.ending ≡ runs.OutOfInstructions → (run_of r).ending ≡ plays.Stopped
stopped_after r e = ap (λ x. ending_of x r.last.running.self) e

module _ (h : Host (World Saved)) (script o : ℕ) (begin : Begin) (w v : World Saved) where
  abbrev Frame0 : State (World Saved)
  Frame0 = entry (first_frame script begin o) w

  cut_after : (count : ℕ) → (run h count Frame0).ending ≡ runs.OutOfInstructions → v ≡ (run h count Frame0).last.world
      → IsRunCut (λ n. run_of (run_from h n script begin o w)) v
  cut_after count e is = record {
    count = count;
    stopped = stopped_after (run_from h count script begin o w) (ap (λ (r : runs.Ran (World Saved)). r.ending) (run_from_is h count script o begin w) ∙ e);
    world = is ∙ sym (ap (λ (r : runs.Ran (World Saved)). r.last.world) (run_from_is h count script o begin w));
  }

  halfway : (n : ℕ) → (run h n Frame0).ending ≡ runs.OutOfInstructions → IsHalfway (run h n Frame0).last.world (run h (suc n) Frame0).last.world v
      → IsRunCut (λ m. run_of (run_from h m script begin o w)) v
  halfway n e (Untouched is) = cut_after n e is
  halfway n e (Called is) = ⊎_elim (λ further. cut_after (suc n) further is) (λ same. cut_after n e (is ∙ same)) (not_further h n Frame0 e)

  pub run_cut : (n self : ℕ) → IsCut h n self Frame0 v → IsRunCut (λ m. run_of (run_from h m script begin o w)) v
  run_cut n self c = halfway n c.ending c.world

-- ---- what a division leaves where its line isn't told

divides : (e : runs.Ending) (self : ℕ) (told : Ended) → IsDivided told → ending_of e self ≡ ending told → e ≡ runs.ZeroDivisor
divides e self ended.Over d is = absurd d
divides e self ended.Stopped d is = absurd d
divides runs.Over self (ended.Divided o) d is = absurd cc
divides runs.ZeroDivisor self (ended.Divided o) d is = refl
divides runs.OutOfInstructions self (ended.Divided o) d is = absurd cc
divides runs.StackFault self (ended.Divided o) d is = absurd cc

pub division_cut : (s : CodeSetting) (limit script o : ℕ) (begin : Begin) (told : Ended) (n : ℕ) (w u v : World Saved)
    → HasRun s limit told n (run_of (run_from (host_in s) limit script begin o w)) w u → IsDivided told → v ≡ u
    → IsRunCut (λ m. run_of (run_from (host_in s) m script begin o w)) v
division_cut s limit script o begin told n w u v h d is =
    let r = run_from (host_in s) limit script begin o w in
    let first = entry (first_frame script begin o) w in
    let same = run_from_is (host_in s) limit script o begin w in
    let zero = divides r.ending r.last.running.self told d (ap (λ (q : Run Saved). q.ending) h.is) in
    let b = divided_before (host_in s) limit first (ap (λ (q : runs.Ran (World Saved)). q.ending) (sym same) ∙ zero) in
    cut_after (host_in s) script o begin w v b.count b.ending
    (is ∙ ap (λ (q : Run Saved). q.world) (sym h.is) ∙ ap (λ (q : runs.Ran (World Saved)). q.last.world) same ∙ b.same)

-- ---- entries that are cut short

pub inside : (rest : World Saved → World Saved) (runs : ℕ → Run Saved) (limit : ℕ) (w v : World Saved) → IsRunCut runs v
    → IsCutIn (λ n. finished rest (runs n)) limit w v
inside rest runs limit w v c =
    Inside c.count (ap (λ e. (finished_as e rest (runs c.count)).stopped) c.stopped)
    (c.world ∙ sym (ap (λ e. (finished_as e rest (runs c.count)).world) c.stopped))

-- what two ways tell alike of an entry
pub cut_alike : (comes others : ℕ → Entered Saved) (limit : ℕ) (w v : World Saved) → ((n : ℕ) → others n ≡ comes n)
    → IsCutIn comes limit w v → IsCutIn others limit w v
cut_alike comes others limit w v same (Unbegun is) = Unbegun is
cut_alike comes others limit w v same (Inside n stopped is) =
    Inside n (ap (λ (e : Entered Saved). e.stopped) (same n) ∙ stopped) (is ∙ sym (ap (λ (e : Entered Saved). e.world) (same n)))
cut_alike comes others limit w v same (Over is) = Over (is ∙ sym (ap (λ (e : Entered Saved). e.world) (same limit)))
cut_alike comes others limit w v same (Told is) = Told (is ∙ sym (ap (λ (e : Entered Saved). drained e.world) (same limit)))

-- where it was begun in another world, and that one isn't left
pub cut_behind : (comes : ℕ → Entered Saved) (limit : ℕ) (w u v : World Saved) → (comes 0).stopped ≡ true → (comes 0).world ≡ u
    → IsCutIn comes limit u v → IsCutIn comes limit w v
cut_behind comes limit w u v stopped first (Unbegun is) = Inside 0 stopped (is ∙ sym first)
cut_behind comes limit w u v stopped first (Inside n halted is) = Inside n halted is
cut_behind comes limit w u v stopped first (Over is) = Over is
cut_behind comes limit w u v stopped first (Told is) = Told is

pub event_cut : (s : CodeSetting) (limit o n : ℕ) (name : List ℕ) (w v : World Saved) → (length name == 0) ≡ false → script_named (scripts_in s) name ≡ Some n
    → IsCutIn (λ m. finished (λ x. x) (run_of (run_from (host_in s) m n begins.Start o w))) limit w v
    → IsCutIn (λ m. event_entry (runner_in s m) o name w) limit w v
event_cut s limit o n name w v some is c =
    cut_alike (λ m. finished (λ x. x) (run_of (run_from (host_in s) m n begins.Start o w))) (λ m. event_entry (runner_in s m) o name w) limit w v
    (λ m. event_is s m o n name w some is) c

pub stored_cut : (s : CodeSetting) (limit o n number : ℕ) (x : Saved) (k : Kind Saved) (w v : World Saved) → k ≡ Stored o x
    → IsCutIn (λ m. finished (λ x. x) (run_of (run_from (host_in s) m n (begins.Stored x) o w))) limit w v
    → IsCutIn (λ m. entered_as (runner_in s m) k number w) limit w v
stored_cut s limit o n number x k w v kind c =
    cut_alike (λ m. finished (λ x. x) (run_of (run_from (host_in s) m n (begins.Stored x) o w))) (λ m. entered_as (runner_in s m) k number w) limit w v
    (λ m. ap (λ q. entered_as (runner_in s m) q number w) kind ∙ ap (finished (λ x. x)) (runner_stored s m x o w)) c

pub turn_cut : (s : CodeSetting) (limit o : ℕ) (x : Saved) (w u v : World Saved) → record { action = Some x; world = u } ≡ turn o w
    → IsCutIn (λ m. finished (turn_done o) (run_of (run_stored (host_in s) m x o u))) limit u v
    → IsCutIn (λ m. turn_taken (runner_in s m) o w) limit w v
turn_cut s limit o x w u v is c =
    let comes : (m : ℕ) → turn_taken (runner_in s m) o w ≡ finished (turn_done o) (run_of (run_stored (host_in s) m x o u)) =
    λ m. ap (λ t. turn_entry (runner_in s m) o t.action t.world) (sym is) ∙ ap (finished (turn_done o)) (runner_stored s m x o u) in
    cut_behind (λ m. turn_taken (runner_in s m) o w) limit w u v
    (ap (λ (e : Entered Saved). e.stopped) (comes 0)) (ap (λ (e : Entered Saved). e.world) (comes 0))
    (cut_alike (λ m. finished (turn_done o) (run_of (run_stored (host_in s) m x o u))) (λ m. turn_taken (runner_in s m) o w) limit u v comes c)

-- ---- answers that are cut short

pub on_err : {A E : Type 0} (r : Result A E) (fact : Type 0) → fact → OnErr r fact
on_err (Ok a) fact f = tt
on_err (Err e) fact f = f

pub listed_cut : (s : CodeSetting) (limit o n : ℕ) (name : List ℕ) (r : Result EnteredTold NoMemory) (w v : World Saved) → (length name == 0) ≡ false
    → script_named (scripts_in s) name ≡ Some n
    → OnErr r (IsCutIn (λ m. finished (λ x. x) (run_of (run_from (host_in s) m n begins.Start o w))) limit w v)
    → OnErr r (IsCutIn (λ m. event_entry (runner_in s m) o name w) limit w v)
listed_cut s limit o n name (Ok e) w v some is c = tt
listed_cut s limit o n name (Err e) w v some is c = event_cut s limit o n name w v some is c

pub acted_cut : (s : CodeSetting) (limit o : ℕ) (x : Saved) (r : Result EnteredTold NoMemory) (w u v : World Saved) → record { action = Some x; world = u } ≡ turn o w
    → OnErr r (IsCutIn (λ m. finished (turn_done o) (run_of (run_stored (host_in s) m x o u))) limit u v)
    → OnErr r (IsCutIn (λ m. turn_taken (runner_in s m) o w) limit w v)
acted_cut s limit o x (Ok e) w u v is c = tt
acted_cut s limit o x (Err e) w u v is c = turn_cut s limit o x w u v is c

pub stored_entry_cut : (s : CodeSetting) (limit o n number : ℕ) (x : Saved) (k : Kind Saved) (r : Result EnteredTold NoMemory) (w v : World Saved) → k ≡ Stored o x
    → OnErr r (IsCutIn (λ m. finished (λ x. x) (run_of (run_from (host_in s) m n (begins.Stored x) o w))) limit w v)
    → OnErr r (IsCutIn (λ m. entered_as (runner_in s m) k number w) limit w v)
stored_entry_cut s limit o n number x k (Ok e) w v kind c = tt
stored_entry_cut s limit o n number x k (Err e) w v kind c = stored_cut s limit o n number x k w v kind c

pub event_entry_cut : (s : CodeSetting) (limit o number : ℕ) (name : List ℕ) (user : ℤ) (k : Kind Saved) (r : Result EnteredTold NoMemory) (w v : World Saved)
    → k ≡ Event o name user → OnErr r (IsCutIn (λ m. event_entry (runner_in s m) o name w) limit w v)
    → OnErr r (IsCutIn (λ m. entered_as (runner_in s m) k number w) limit w v)
event_entry_cut s limit o number name user k r w v kind c = subst (λ q. OnErr r (IsCutIn (λ m. entered_as (runner_in s m) q number w) limit w v)) (sym kind) c

pub turn_entry_cut : (s : CodeSetting) (limit o number : ℕ) (k : Kind Saved) (r : Result EnteredTold NoMemory) (w v : World Saved) → k ≡ Turn o
    → OnErr r (IsCutIn (λ m. turn_taken (runner_in s m) o w) limit w v) → OnErr r (IsCutIn (λ m. entered_as (runner_in s m) k number w) limit w v)
turn_entry_cut s limit o number k r w v kind c = subst (λ q. OnErr r (IsCutIn (λ m. entered_as (runner_in s m) q number w) limit w v)) (sym kind) c

pub kept_cut : (comes : ℕ → Entered Saved) (limit : ℕ) (r : Result EnteredTold NoMemory) (w v : World Saved) → OnErr r (v ≡ w) → OnErr r (IsCutIn comes limit w v)
kept_cut comes limit (Ok e) w v is = tt
kept_cut comes limit (Err e) w v is = Unbegun is

pub ran_out : (answer : Ran) (fact : Type 0) → answer ≡ ran.NoMemory → WhereRunCut answer fact → fact
ran_out answer fact is f = subst (λ a. WhereRunCut a fact) is f

-- how a world begins the entry that is due, where there is one
abbrev pub BegunAs : ℕ → World Saved → Option (Entry Saved) → World Saved → Type 0
BegunAs until w None v = (begin until w ≡ None) × (v ≡ w)
BegunAs until w (Some e) v = begin until w ≡ Some (record { entry = e; world = v })

pub begun_as : (until : ℕ) (w v : World Saved) (b : Option (Entry Saved)) (e : Entry Saved) → b ≡ Some e → BegunAs until w b v
    → begin until w ≡ Some (record { entry = e; world = v })
begun_as until w v b e is h = subst (λ x. BegunAs until w x v) is h

pub turn_is_cut : (h : Host (World Saved)) (limit : ℕ) (b : Option (Begun Saved)) (e : Entry Saved) (w u v : World Saved) (answer : TurnOutcome)
    → b ≡ Some (record { entry = e; world = u })
    → WhereCutIn answer (IsCutIn (λ n. entered_as (code_runner h n) e.kind e.number u) limit u v) → WhereCutIn answer (IsCutAt h limit b w v)
turn_is_cut h limit b e w u v (next.Goes n) is c = tt
turn_is_cut h limit b e w u v (next.Stops n) is c = tt
turn_is_cut h limit b e w u v next.Rests is c = tt
turn_is_cut h limit b e w u v next.Fault is c = In (record { entry = e; world = u }) is c
turn_is_cut h limit b e w u v next.NoMemory is c = In (record { entry = e; world = u }) is c

pub lines_kept : (comes : ℕ → Entered Saved) (limit : ℕ) (w u v : World Saved) → (comes limit).world ≡ u → (v ≡ u) ⊎ (v ≡ drained u)
    → IsCutIn comes limit w v
lines_kept comes limit w u v is (inl kept) = Over (kept ∙ sym is)
lines_kept comes limit w u v is (inr told) = Told (told ∙ ap drained (sym is))

pub lines_told : (comes : ℕ → Entered Saved) (limit : ℕ) (w u v : World Saved) → (comes limit).world ≡ u → v ≡ drained u → IsCutIn comes limit w v
lines_told comes limit w u v is told = Told (told ∙ ap drained (sym is))

pub last_whole : (h : How) (e : PlayEnd) (fact : Type 0) → IsLastEnd h e → WhereCut h fact
last_whole how.Done e fact is = tt
last_whole how.EntryStop e fact is = tt
last_whole how.InstrStop e fact is = absurd is
last_whole how.Pause e fact is = absurd is
last_whole how.Fault e fact is = absurd is
last_whole how.NoMemory e fact is = absurd is
