-- A start that leaves nothing on the agenda is the only entry of its play, and so is one of a unit
-- without action arguments.
use Rattle.std.proofs.Common.{◌≡◌, ◌+◌, ℕ, suc, Bool, true, false, List, [], ◌∷◌, Option, None, Some, if◌then◌else◌, refl, ap, ◌∙◌}
use Rattle.std.specs.Prelude.{◌==◌}
use Rattle.nwq_value.specs.Limits.{default_entry_limit, default_until}
use Rattle.nwq_value.specs.declared.value.Value.{Value}
use Rattle.world_rules.specs.World.{World}
use Rattle.world_rules.specs.Turns.{begin, entry_begun, fault}
use Rattle.world_rules.specs.declared.data.Told.TheVariants as line
use Rattle.world_rules.specs.Plays.{Runner, Bounds, Progress, Entered, Done, after_entry, event_entry, finished_as, full, further, named_entry, next_entry, Played, plays, unplayed}
use Rattle.source_meaning.specs.Evaluation.{Deferred, Outcome, Gives, Divides, OutOfSteps}
use Rattle.source_meaning.specs.Scripts.{Setting, run_script}
use Rattle.source_meaning.specs.Plays.{runner, run_of}
use Rattle.play_meaning.specs.Together.{whole}
use Rattle.play_worlds.specs.Worlds.{text_name}
use Rattle.command_meaning.specs.Runs.{setting_of, source_played, source_world}
use Rattle.command_meaning.specs.Once.{begun_world, evaluated, StartsPlayOnce, StartsPlayOnceWhereNothingWaits}
use Rattle.command_meaning.proofs.BareCalls.{IsBare, told_bare}
use Rattle.command_meaning.proofs.BareScripts.{AllHaveNone, Bare, script_bare}

-- ---- where nothing waits after the first entry

module _ (runner : Runner Deferred) (bounds : Bounds) where
  -- where nothing is due the play is done
  none_due : (left : ℕ) (p : Progress Deferred) → (p.entries == bounds.entries) ≡ false → p.world.agenda.entries ≡ []
      → plays runner bounds (suc left) p ≡ record { ending = Done; last = p }
  none_due left p more empty =
      ap (λ (b : Bool). if b then record { ending = full (begin bounds.until p.world); last = p } else next_entry runner (begin bounds.until p.world) p (plays runner bounds left)) more
      ∙ ap (λ entries. next_entry runner (entry_begun bounds.until entries p.world) p (plays runner bounds left)) empty

  after_one : (left : ℕ) (e : Entered Deferred) (p : Progress Deferred) (stopped : Bool) → ((p.entries + 1) == bounds.entries) ≡ false → e.world.agenda.entries ≡ []
      → after_entry stopped (further e p) (plays runner bounds (suc left)) ≡ after_entry stopped (further e p) (λ q. record { ending = Done; last = q })
  after_one left e p true more empty = refl
  after_one left e p false more empty = none_due left (further e p) more empty

last_of_one : (name : List ℕ) (e : Entered Deferred) (stopped : Bool)
    → (after_entry stopped (further e (unplayed (source_world name))) (λ p. record { ending = Done; last = p })).last ≡ further e (unplayed (source_world name))
last_of_one name e true = refl
last_of_one name e false = refl

pub starts_play_once_where_nothing_waits : StartsPlayOnceWhereNothingWaits
unfolding evaluated source_played
starts_play_once_where_nothing_waits cell header name u n empty =
    let e = evaluated cell header name u n in
    let same = after_one (runner (setting_of cell header name u) n) (whole default_entry_limit default_until) 9999 e (unplayed (source_world name)) e.stopped refl empty in
    let last = last_of_one name e e.stopped in
    record {
      is = same;
      entries = ap (λ (p : Played Deferred). p.last.entries) same ∙ ap (λ (p : Progress Deferred). p.entries) last;
      told = ap (λ (p : Played Deferred). p.last.trace) same ∙ ap (λ (p : Progress Deferred). p.trace) last;
    }

-- ---- where no call has an action as an argument

-- what the one entry comes to is bare as its run is
ran_bare : (n : ℕ) (r : Outcome (List Value)) → Bare r → (rest : World Deferred → World Deferred) → ((w : World Deferred) → IsBare w → IsBare (rest w))
    → IsBare (finished_as (run_of n r).ending rest (run_of n r)).world
ran_bare n (Gives parts p) h rest keeps = keeps p.world h.1
ran_bare n (Divides self p) h rest keeps = keeps (fault self p.world) (told_bare self line.Divide p.world h)
ran_bare n (OutOfSteps p) h rest keeps = h

module _ (s : Setting) (plain : AllHaveNone s.scripts) (n : ℕ) where
  named_bare : (name : List ℕ) (script : Option ℕ) (w : World Deferred) → IsBare w → IsBare (named_entry (runner s n) 0 name script w).world
  named_bare name None w h = told_bare 0 (line.NoScript name) w h
  named_bare name (Some script) w h = ran_bare n (run_script s n script 0 w) (script_bare s plain n script 0 w h) (λ v. v) (λ v k. k)

  event_bare : (name : List ℕ) (w : World Deferred) → IsBare w → IsBare (event_entry (runner s n) 0 name w).world
  event_bare [] w h = h
  event_bare (b ∷ name) w h = named_bare (b ∷ name) ((runner s n).named (b ∷ name)) w h

pub starts_play_once : StartsPlayOnce
unfolding evaluated
starts_play_once cell header name u plain n =
    starts_play_once_where_nothing_waits cell header name u n
    (event_bare (setting_of cell header name u) (plain, tt) n (text_name name) begun_world (record { objects = refl; nothing = refl })).nothing
