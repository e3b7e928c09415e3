-- What entries come to.
use Rattle.std.proofs.Common.{arith, ◌≡◌, ◌≤◌, ◌+◌, ℕ, Bool, false, List, [], ◌∷◌, Option, None, Some, sym, subst, ap, ◌∙◌, refl}
use Rattle.nwq_value.specs.declared.memory.NoMemory.{NoMemory}
use Rattle.std.specs.Prelude.{Result, Ok, Err, IfOk, OnOk, ◌==◌, ◌&&◌, nat_le, IsTrue, length}
use Rattle.std.proofs.lemmas.Bool.{le-leb}
use Rattle.saved_state.specs.declared.saved.Saved.{Saved}
use Rattle.machine_rules.specs.Machine.{script_named}
use Rattle.machine_rules.specs.Runs.{run_stored}
use Rattle.stack_rules.specs.Fits.{FitsOne}
use Rattle.world_rules.specs.Engine.{no_script}
use Rattle.world_rules.specs.Kept.{IsWorld, IsActing, IsTurned, FaultKeeps, TurnKeeps}
use Rattle.world_rules.specs.Turns.{Turned, fault, turn, turn_done, unapply}
use Rattle.world_rules.specs.World.{World, count as object_count, is_valid}
use Rattle.world_rules.specs.Plays.{Run, event_entry, named_entry, finished, turn_entry, entered_as}
use Rattle.delay_agenda.specs.declared.entry.Kind.{Kind}
use Rattle.delay_agenda.specs.declared.entry.Kind.TheVariants.{Stored, Unapply}
use Rattle.ncs_machine.specs.Endings.{IsLeft}
use Rattle.ncs_machine.specs.Host.{host, run_from}
use Rattle.ncs_machine.specs.Settings.{CodeSetting, FitIn, host_in, scripts_in, tables_in}
use Rattle.ncs_machine.specs.Stored.{StatesFit, TurnedFits, TurnKeepsFits, TurnDoneKeepsFits, UnapplyKeepsFits}
use Rattle.ncs_machine.specs.declared.scripts.Begin.TheVariants as begins
use Rattle.module_player.specs.declared.scripts.Ended.{Ended}
use Rattle.module_player.specs.declared.entry.Entered.{Entered}
use Rattle.module_player.specs.CodePlays.{code_runner, run_of, runner_in}
use Rattle.module_player.specs.Entries.{HasActed, HasEntered, HasRun, KeepsFits, as_entered, run_with_ending, turn_taken}
use Rattle.module_player.specs.Premises.{IsActor, IsReady}

-- ---- states that fit

pub same_fits : (w v : World Saved) → v.agenda ≡ w.agenda → v.things ≡ w.things → KeepsFits w v
same_fits w v agenda things scripts tables f = record { agenda = rw agenda f.agenda; queues = rw things f.queues }

-- ---- the runner

runner_named : (s : CodeSetting) (limit : ℕ) (name : List ℕ) → (runner_in s limit).named name ≡ script_named (scripts_in s) name
unfolding code_runner host
runner_named s limit name = refl

runner_script : (s : CodeSetting) (limit n o : ℕ) (w : World Saved) → (runner_in s limit).script n o w ≡ run_of (run_from (host_in s) limit n begins.Start o w)
unfolding code_runner
runner_script s limit n o w = refl

pub runner_stored : (s : CodeSetting) (limit : ℕ) (x : Saved) (o : ℕ) (w : World Saved) → (runner_in s limit).stored x o w ≡ run_of (run_stored (host_in s) limit x o w)
unfolding code_runner
runner_stored s limit x o w = refl

-- ---- an entry of scripts alone

pub script_entered : (s : CodeSetting) (limit : ℕ) (ended : Ended) (n : ℕ) (stopped : Bool) (r : Run Saved) (w u v : World Saved)
    → HasRun s limit ended n r w u → ((m : ℕ) → finished (λ x. x) (run_with_ending ended m u) ≡ record { stopped = stopped; count = m; world = v })
    → v.agenda ≡ u.agenda → v.things ≡ u.things → HasEntered s limit (record { stopped = stopped; count = n }) (finished (λ x. x) r) w v
script_entered s limit ended n stopped r w u v h f agenda things = record {
  is = ap (finished (λ x. x)) h.is ∙ f n;
  within = h.within;
  fit = same_fits u v agenda things (scripts_in s) (tables_in s) h.fit;
  few = let left = h.left in let k = left.few in let same = ap (λ a. a.next) agenda in omega arith;
}

-- ---- events

pub event_empty : (s : CodeSetting) (limit o : ℕ) (name : List ℕ) (w : World Saved) → name ≡ [] → FitIn s w
    → HasEntered s limit (record { stopped = false; count = 0 }) (event_entry (runner_in s limit) o name w) w w
event_empty s limit o name w empty f = record {
  is = ap (λ b. event_entry (runner_in s limit) o b w) empty;
  within = omega arith;
  fit = f;
  few = omega arith;
}

pub named_unlisted : (s : CodeSetting) (limit o : ℕ) (name : List ℕ) (w v : World Saved) → script_named (scripts_in s) name ≡ None → v ≡ no_script o name w → FitIn s w
    → HasEntered s limit (record { stopped = false; count = 0 }) (named_entry (runner_in s limit) o name ((runner_in s limit).named name) w) w v
named_unlisted s limit o name w v none is f = record {
  is = ap (λ n. named_entry (runner_in s limit) o name n w) (runner_named s limit name ∙ none) ∙ ap (λ x. record { stopped = false; count = 0; world = x }) (sym is);
  within = omega arith;
  fit = same_fits w v (ap (λ x. x.agenda) is) (ap (λ x. x.things) is) (scripts_in s) (tables_in s) f;
  few = let k = ap (λ x. x.agenda.next) is in omega arith;
}

pub some_bytes : (own name : List ℕ) (b : Bool) → own ≡ name → b ≡ (length own == 0) → b ≡ false → (length name == 0) ≡ false
some_bytes own name b same is not_so = ap (λ x. length x == 0) (sym same) ∙ sym is ∙ not_so

pub event_unlisted : (s : CodeSetting) (limit o : ℕ) (name : List ℕ) (w v : World Saved) → (length name == 0) ≡ false → script_named (scripts_in s) name ≡ None → v ≡ no_script o name w → FitIn s w
    → HasEntered s limit (record { stopped = false; count = 0 }) (event_entry (runner_in s limit) o name w) w v
event_unlisted s limit o [] w v some none is f = absurd cc
event_unlisted s limit o (b ∷ name) w v some none is f = named_unlisted s limit o (b ∷ name) w v none is f

named_listed : (s : CodeSetting) (limit o n : ℕ) (name : List ℕ) (w : World Saved) → script_named (scripts_in s) name ≡ Some n
    → named_entry (runner_in s limit) o name ((runner_in s limit).named name) w ≡ finished (λ x. x) (run_of (run_from (host_in s) limit n begins.Start o w))
named_listed s limit o n name w is =
    ap (λ m. named_entry (runner_in s limit) o name m w) (runner_named s limit name ∙ is) ∙ ap (finished (λ x. x)) (runner_script s limit n o w)

pub event_is : (s : CodeSetting) (limit o n : ℕ) (name : List ℕ) (w : World Saved) → (length name == 0) ≡ false → script_named (scripts_in s) name ≡ Some n
    → event_entry (runner_in s limit) o name w ≡ finished (λ x. x) (run_of (run_from (host_in s) limit n begins.Start o w))
event_is s limit o n [] w some is = absurd cc
event_is s limit o n (b ∷ name) w some is = named_listed s limit o n (b ∷ name) w is

pub event_listed : (s : CodeSetting) (limit o n : ℕ) (name : List ℕ) (e : Entered) (w v : World Saved) → (length name == 0) ≡ false → script_named (scripts_in s) name ≡ Some n
    → HasEntered s limit e (finished (λ x. x) (run_of (run_from (host_in s) limit n begins.Start o w))) w v
    → HasEntered s limit e (event_entry (runner_in s limit) o name w) w v
event_listed s limit o n name e w v some is h = subst (λ p. HasEntered s limit e p w v) (sym (event_is s limit o n name w some is)) h

pub listed_event : (s : CodeSetting) (limit o n : ℕ) (name : List ℕ) (r : Result Entered NoMemory) (w v : World Saved) → (length name == 0) ≡ false → script_named (scripts_in s) name ≡ Some n
    → IfOk r (λ e. HasEntered s limit e (finished (λ x. x) (run_of (run_from (host_in s) limit n begins.Start o w))) w v)
    → IfOk r (λ e. HasEntered s limit e (event_entry (runner_in s limit) o name w) w v)
listed_event s limit o n name (Ok e) w v some is h = event_listed s limit o n name e w v some is h
listed_event s limit o n name (Err e) w v some is h = tt

-- ---- stored actions

pub stored_entered : (s : CodeSetting) (limit o n number : ℕ) (x : Saved) (e : Entered) (w v : World Saved)
    → HasEntered s limit e (finished (λ y. y) (run_of (run_from (host_in s) limit n (begins.Stored x) o w))) w v
    → HasEntered s limit e (entered_as (runner_in s limit) (Stored o x) number w) w v
stored_entered s limit o n number x e w v h = subst (λ r. HasEntered s limit e (finished (λ y. y) r) w v) (sym (runner_stored s limit x o w)) h

pub stored_entry : (s : CodeSetting) (limit o n number : ℕ) (x : Saved) (k : Kind Saved) (r : Result Entered NoMemory) (w v : World Saved) → k ≡ Stored o x
    → IfOk r (λ e. HasEntered s limit e (finished (λ y. y) (run_of (run_from (host_in s) limit n (begins.Stored x) o w))) w v)
    → IfOk r (λ e. HasEntered s limit e (entered_as (runner_in s limit) k number w) w v)
stored_entry s limit o n number x k (Ok e) w v kind h =
    subst (λ q. HasEntered s limit e (entered_as (runner_in s limit) q number w) w v) (sym kind) (stored_entered s limit o n number x e w v h)
stored_entry s limit o n number x k (Err e) w v kind h = tt

-- ---- Turns

pub action_entered : (s : CodeSetting) (limit o : ℕ) (ended : Ended) (n : ℕ) (stopped : Bool) (r : Run Saved) (w u v : World Saved)
    → HasRun s limit ended n r w u → ((m : ℕ) → finished (turn_done o) (run_with_ending ended m u) ≡ record { stopped = stopped; count = m; world = v })
    → v.agenda.next ≤ u.agenda.next + 1 → KeepsFits u v → HasActed s limit (record { stopped = stopped; count = n }) (finished (turn_done o) r) w v
action_entered s limit o ended n stopped r w u v h f few fit = record {
  is = ap (finished (turn_done o)) h.is ∙ f n;
  within = h.within;
  fit = fit (scripts_in s) (tables_in s) h.fit;
  few = let left = h.left in let k = left.few in omega arith;
}

pub acts_on : (o : ℕ) (limit : ℕ) (w v : World Saved) → IsLeft limit w v → IsActing o w → IsActing o v
acts_on o limit w v left acts = left.acting o acts

pub fault_acts : (own o : ℕ) (w v : World Saved) → FaultKeeps Saved → IsWorld w → v ≡ fault own w → IsActing o w → IsActing o v
fault_acts own o w v keeps world is acts = subst (IsActing o) (sym is) ((keeps own w world).acting o acts)

pub now_is : (a b : Option Saved) (u : World Saved) (t : Turned Saved) → a ≡ b → record { action = a; world = u } ≡ t → record { action = b; world = u } ≡ t
now_is a b u t is e = ap (λ x. record { action = x; world = u }) (sym is) ∙ e

pub valid_object : (o : ℕ) (w : World Saved) → 1 ≤ o → o ≤ object_count w → IsTrue (is_valid o w)
valid_object o w first within = subst (λ b. IsTrue (b && nat_le o (object_count w))) (sym (le-leb 1 o first)) (le-leb o (object_count w) within)

pub turn_rests : (s : CodeSetting) (limit o : ℕ) (w v : World Saved) → TurnKeeps Saved → TurnKeepsFits → IsWorld w → IsTrue (is_valid o w) → IsActing o w → FitIn s w
    → record { action = None; world = v } ≡ turn o w
    → HasEntered s limit (record { stopped = false; count = 0 }) (turn_taken (runner_in s limit) o w) w v
turn_rests s limit o w v keeps fits world valid acts f e =
    subst (λ t. HasEntered s limit (record { stopped = false; count = 0 }) (turn_entry (runner_in s limit) o t.action t.world) w v) e (record {
      is = refl;
      within = omega arith;
      fit = subst (FitIn s) (sym (ap (λ t. t.world) e)) (fits (scripts_in s) (tables_in s) o w f).world;
      few = let k = (keeps o w world valid acts).at_most_one in let m = ap (λ t. t.world.agenda.next) e in omega arith;
    })

-- a Turn that comes to a stored action
pub record ActsNow (s : CodeSetting) (o : ℕ) (x : Saved) (w u : World Saved) : Type 0 where
  pub stored : FitsOne (scripts_in s) (tables_in s) x
  pub fit : FitIn s u
  pub clock : u.clock ≡ w.clock
  pub few : u.agenda.next ≤ w.agenda.next + 1
  pub objects : object_count u ≡ object_count w
  pub acting : IsActing o u

pub acts_now : (s : CodeSetting) (o : ℕ) (x : Saved) (w u : World Saved) → TurnKeeps Saved → TurnKeepsFits → IsWorld w → IsTrue (is_valid o w) → IsActing o w → FitIn s w
    → record { action = Some x; world = u } ≡ turn o w → ActsNow s o x w u
acts_now s o x w u keeps fits world valid acts f e =
    let k = subst (IsTurned o w) (sym e) (keeps o w world valid acts) in
    let h = subst (TurnedFits (scripts_in s) (tables_in s)) (sym e) (fits (scripts_in s) (tables_in s) o w f) in
    record { stored = h.action; fit = h.world; clock = k.clock; few = k.at_most_one; objects = k.objects; acting = k.acting }

pub ready_on : (s : CodeSetting) (o : ℕ) (x : Saved) (w u : World Saved) (left now : ℕ) → ActsNow s o x w u → IsReady s 1 w left → left ≤ now → IsReady s 0 u now
ready_on s o x w u left now a r grows = record {
  fit = a.fit;
  clock = let k = a.clock in let m = r.clock in omega arith;
  next = let k = a.few in let m = r.next in omega arith;
  room = let m = r.room in omega arith;
}

pub actor_on : (s : CodeSetting) (o : ℕ) (x : Saved) (w u : World Saved) → ActsNow s o x w u → IsActor o w → IsActor o u
actor_on s o x w u a is = record { first = is.first; within = let k = a.objects in let m = is.within in omega arith; acting = a.acting }

pub turn_acts : (s : CodeSetting) (limit o : ℕ) (x : Saved) (e : Entered) (w u v : World Saved) → u.agenda.next ≤ w.agenda.next + 1
    → record { action = Some x; world = u } ≡ turn o w
    → HasActed s limit e (finished (turn_done o) (run_of (run_stored (host_in s) limit x o u))) u v
    → HasEntered s limit e (turn_taken (runner_in s limit) o w) w v
turn_acts s limit o x e w u v few is h =
    subst (λ t. HasEntered s limit e (turn_entry (runner_in s limit) o t.action t.world) w v) is (record {
      is = ap (finished (turn_done o)) (runner_stored s limit x o u) ∙ h.is;
      within = h.within;
      fit = h.fit;
      few = let k = h.few in omega arith;
    })

-- ---- the end of an effect

pub unapply_fits : (o number : ℕ) (w v : World Saved) → UnapplyKeepsFits → v ≡ unapply o number w → KeepsFits w v
unapply_fits o number w v keeps is scripts tables f = subst (StatesFit scripts tables) (sym is) (keeps scripts tables o number w f)

pub unapply_entered : (s : CodeSetting) (limit o number : ℕ) (e : Entered) (w v : World Saved) → FitIn s w → e ≡ record { stopped = false; count = 0 } → v ≡ unapply o number w
    → v.agenda.next ≤ w.agenda.next + 1 → KeepsFits w v → HasEntered s limit e (entered_as (runner_in s limit) (Unapply o) number w) w v
unapply_entered s limit o number e w v f quiet is few fits = record {
  is = ap (λ x. record { stopped = false; count = 0; world = x }) (sym is) ∙ ap (λ q. as_entered q v) (sym quiet);
  within = subst (λ q. q.count ≤ limit) (sym quiet) (omega arith);
  fit = fits (scripts_in s) (tables_in s) f;
  few = omega arith;
}

pub unapply_entry : (s : CodeSetting) (limit o number : ℕ) (k : Kind Saved) (r : Result Entered NoMemory) (w v : World Saved) → k ≡ Unapply o → FitIn s w
    → IfOk r (λ e. e ≡ record { stopped = false; count = 0 }) → OnOk r (v ≡ unapply o number w) → OnOk r (v.agenda.next ≤ w.agenda.next + 1) → OnOk r (KeepsFits w v)
    → IfOk r (λ e. HasEntered s limit e (entered_as (runner_in s limit) k number w) w v)
unapply_entry s limit o number k (Ok e) w v kind f quiet is few fits =
    subst (λ q. HasEntered s limit e (entered_as (runner_in s limit) q number w) w v) (sym kind) (unapply_entered s limit o number e w v f quiet is few fits)
unapply_entry s limit o number k (Err e) w v kind f quiet is few fits = tt

-- ---- a Turn that is done

pub done_fits : (o : ℕ) (w v : World Saved) → TurnDoneKeepsFits → v ≡ turn_done o w → KeepsFits w v
done_fits o w v keeps is scripts tables f = subst (StatesFit scripts tables) (sym is) (keeps scripts tables o w f)

pub fault_fits : (own o : ℕ) (w u v : World Saved) → TurnDoneKeepsFits → u ≡ fault own w → v ≡ turn_done o u → KeepsFits w v
fault_fits own o w u v keeps first is scripts tables f =
    done_fits o u v keeps is scripts tables (same_fits w u (ap (λ x. x.agenda) first) (ap (λ x. x.things) first) scripts tables f)

pub acted_turn : (s : CodeSetting) (limit o : ℕ) (x : Saved) (r : Result Entered NoMemory) (w u v : World Saved) → u.agenda.next ≤ w.agenda.next + 1
    → record { action = Some x; world = u } ≡ turn o w
    → IfOk r (λ e. HasActed s limit e (finished (turn_done o) (run_of (run_stored (host_in s) limit x o u))) u v)
    → IfOk r (λ e. HasEntered s limit e (turn_taken (runner_in s limit) o w) w v)
acted_turn s limit o x (Ok e) w u v few is h = turn_acts s limit o x e w u v few is h
acted_turn s limit o x (Err e) w u v few is h = tt

pub ruleset event_lemmas = (event_empty, event_unlisted, event_listed)

pub ruleset action_lemmas = (action_entered, acts_on)

pub ruleset turn_lemmas = (fault_acts, done_fits, fault_fits)

pub ruleset turn_entry_lemmas = (turn_rests, turn_acts, acts_now)

pub ruleset entry_lemmas = (stored_entered, unapply_entered)
