-- What turns of a play come to.
use Rattle.std.proofs.Common.{arith, ◌≡◌, ◌≤◌, ◌<◌, ◌+◌, ℕ, Bool, true, false, List, [], ◌∷◌, ◌++◌, Option, None, Some, sym, subst, ap, ◌∙◌, refl}
use Rattle.std.specs.Prelude.{◌^◌}
use Rattle.delay_agenda.specs.declared.entry.Entry.{Entry}
use Rattle.nwq_outside.specs.Outside.{Takes as TakesPiece, TookPrefix}
use Rattle.nwq_outside.specs.declared.answer.Done.TheVariants as done
use Rattle.nwq_value.specs.Limits.{time_limit}
use Rattle.saved_state.specs.declared.saved.Saved.{Saved}
use Rattle.world_rules.specs.Kept.{IsBegun, IsPlaced}
use Rattle.world_rules.specs.Trace.{trace_text}
use Rattle.world_rules.specs.Turns.{Begun, begin, drained}
use Rattle.world_rules.specs.World.{World}
use Rattle.world_rules.specs.Plays as plays
use Rattle.world_rules.specs.Plays.{entered_as}
use Rattle.ncs_machine.specs.Settings.{CodeSetting, FitIn, scripts_in, tables_in}
use Rattle.ncs_machine.specs.Stored.{BeginKeepsFits, BegunFits}
use Rattle.module_player.specs.declared.entry.Entered.{Entered}
use Rattle.module_player.specs.declared.turn.TurnOutcome.{TurnOutcome}
use Rattle.module_player.specs.declared.turn.TurnOutcome.TheVariants.{Goes, Stops, Rests, Fault, NoMemory}
use Rattle.module_player.specs.Entries.{HasEntered}
use Rattle.module_player.specs.Premises.{IsReady, MayTake}
use Rattle.module_player.specs.CodePlays.{runner_in}
use Rattle.module_player.specs.Turns.{IsInside, IsTaken, Takes, TakesText, Turns, lines_of}

-- ---- prefixes

appended_none : (xs : List ℕ) → xs ≡ xs ++ []
appended_none [] = refl
appended_none (x ∷ xs) = ap (λ ys. x ∷ ys) (appended_none xs)

pub took_none : (text t t' : List ℕ) → t' ≡ t → TookPrefix text t t'
took_none text t t' same = record { prefix = []; rest = text; parts = refl; taken = same ∙ appended_none t }

-- ---- lines that are put

-- nothing is appended to what a list begins with
pub drained_empty : (out text : List ℕ) → out ≡ [] ++ text → out ≡ [] → text ≡ []
drained_empty out text is empty = sym is ∙ empty

pub put_none : (text t t' : List ℕ) → text ≡ [] → t' ≡ t → TakesPiece text t t' done.Ok
put_none text t t' none same = same ∙ appended_none t ∙ ap (λ xs. t ++ xs) (sym none)

-- ---- an entry that was taken

module _ (s : CodeSetting) (limit : ℕ) (e : Entered) (p : plays.Entered Saved) (w u v : World Saved) where
  abbrev TakenAs : Bool → Type 0
  TakenAs stopped = IsTaken stopped e.count p v × IsInside s limit e.count w v

  taken_as : (stopped : Bool) → HasEntered s limit e p w u → v ≡ drained u → e.stopped ≡ stopped → TakenAs stopped
  taken_as stopped h is same = (
    record {
      stopped = ap (λ q. q.stopped) h.is ∙ same;
      count = ap (λ q. q.count) h.is;
      world = is ∙ ap drained (sym (ap (λ q. q.world) h.is));
    },
    record {
      within = h.within;
      fit = subst (FitIn s) (sym is) (record { agenda = h.fit.agenda; queues = h.fit.queues });
      few = let k = h.few in let m = ap (λ x. x.agenda.next) is in omega arith;
    },
  )

  pub goes_taken : HasEntered s limit e p w u → v ≡ drained u → e.stopped ≡ false → Takes (Goes e.count) s limit p w v
  goes_taken h is same = taken_as false h is same

  pub stops_taken : HasEntered s limit e p w u → v ≡ drained u → e.stopped ≡ true → Takes (Stops e.count) s limit p w v
  stops_taken h is same = taken_as true h is same

  pub text_is : HasEntered s limit e p w u → trace_text u.trace ≡ trace_text p.world.trace
  text_is h = ap (λ q. trace_text q.world.trace) (sym h.is)

-- ---- an entry that is begun

-- what is asked before it is taken
module _ (s : CodeSetting) (until : ℕ) (e : Entry Saved) (w u : World Saved) where
  begun_fits : BeginKeepsFits → FitIn s w → begin until w ≡ Some (record { entry = e; world = u }) → BegunFits (scripts_in s) (tables_in s) (Some (record { entry = e; world = u }))
  begun_fits keeps f is = subst (BegunFits (scripts_in s) (tables_in s)) is (keeps (scripts_in s) (tables_in s) until w f)

  pub is_ready : (room : ℕ) → BeginKeepsFits → FitIn s w → w.agenda.next + 1 < 2 ^ 62 → until ≤ time_limit
      → begin until w ≡ Some (record { entry = e; world = u }) → IsBegun until w (record { entry = e; world = u }) → 1 ≤ room → IsReady s 1 u room
  is_ready room keeps f next less is b some = record {
    fit = (begun_fits keeps f is).1;
    clock = let k = b.clock in let m = b.due in omega arith;
    next = let k = b.next in omega arith;
    room = some;
  }

  pub may_take : BeginKeepsFits → FitIn s w → begin until w ≡ Some (record { entry = e; world = u }) → IsBegun until w (record { entry = e; world = u }) → MayTake s e.kind u
  may_take keeps f is b = record {
    placed = subst (λ n. IsPlaced n e.kind) (sym b.objects) b.placed;
    acting = b.acting;
    stored = (begun_fits keeps f is).0;
  }

-- the turn is that entry
module _ (s : CodeSetting) (limit : ℕ) (b : Option (Begun Saved)) (e : Entry Saved) (w u v : World Saved) where
  inside_from : (n : ℕ) → u.agenda.next ≡ w.agenda.next → IsInside s limit n u v → IsInside s limit n w v
  inside_from n same h = record { within = h.within; fit = h.fit; few = let k = h.few in omega arith }

  pub turn_goes : (next : TurnOutcome) → b ≡ Some (record { entry = e; world = u }) → u.agenda.next ≡ w.agenda.next
      → Takes next s limit (entered_as (runner_in s limit) e.kind e.number u) u v → Turns next s limit (runner_in s limit) b w v
  turn_goes (Goes n) is same h = subst (λ x. Turns (Goes n) s limit (runner_in s limit) x w v) (sym is) (h.0, inside_from n same h.1)
  turn_goes (Stops n) is same h = subst (λ x. Turns (Stops n) s limit (runner_in s limit) x w v) (sym is) (h.0, inside_from n same h.1)
  turn_goes Rests is same h = absurd h
  turn_goes Fault is same h = tt
  turn_goes NoMemory is same h = tt

  pub turn_text : (next : TurnOutcome) (t t' : List ℕ) → b ≡ Some (record { entry = e; world = u })
      → TakesText next (trace_text (entered_as (runner_in s limit) e.kind e.number u).world.trace) t t'
      → TakesText next (trace_text (lines_of (runner_in s limit) b)) t t'
  turn_text next t t' is h = subst (λ x. TakesText next (trace_text (lines_of (runner_in s limit) x)) t t') (sym is) h

pub turn_rests : (s : CodeSetting) (limit : ℕ) (b : Option (Begun Saved)) (w v : World Saved) → b ≡ None → v ≡ w → Turns Rests s limit (runner_in s limit) b w v
turn_rests s limit b w v none same = subst (λ x. Turns Rests s limit (runner_in s limit) x w v) (sym none) same

pub ruleset put_lemmas = (took_none, drained_empty, put_none)

pub ruleset take_lemmas = (took_none, goes_taken, stops_taken, text_is)

pub ruleset turn_lemmas = (took_none, is_ready, may_take, turn_goes, turn_text, turn_rests)
