-- Worlds that are alike stay so, whatever relation says which stored actions belong together: every
-- change is the same whatever these are.
use Rattle.std.proofs.Common.{◌≡◌, Option, None, Some, refl, sym, ap, ap₂, subst, ◌∙◌}
use Rattle.std.specs.Option.{option_map}
use Rattle.delay_agenda.specs.declared.entry.Entry.{Entry}
use Rattle.delay_agenda.specs.declared.entry.Kind.{Kind}
use Rattle.delay_agenda.specs.declared.entry.Kind.TheVariants.{Event, Stored, Turn, Unapply}
use Rattle.world_rules.specs.World.{World}
use Rattle.world_rules.specs.Rows.{Answered}
use Rattle.world_rules.specs.Engine.{engine, may_run, no_script, too_deep}
use Rattle.world_rules.specs.Turns.{Begun, Turned, new_world, begin, turn, turn_done, unapply, fault, drained}
use Rattle.world_rules.specs.Mapped.{map_kind, map_entry, map_world, map_answered, map_begun, map_turned}
use Rattle.world_rules.specs.Alike.{Related, left_of, right_of, Alike, OptionAlike, KindAlike, EntryAlike, AnsweredAlike, BegunAlike, TurnedAlike}
use Rattle.world_rules.specs.AlikeLaws.{call, NewIsAlike, EngineKeepsAlike, MayRunAlike, BeginKeepsAlike, TurnKeepsAlike, TurnDoneKeepsAlike, UnapplyKeepsAlike, FaultKeepsAlike, NoScriptKeepsAlike, TooDeepKeepsAlike, DrainedKeepsAlike}
use Rattle.world_rules.specs.RowMaps.{engine_map}
use Rattle.world_rules.specs.TurnMaps.{new_map, begin_map, turn_map, turn_done_map, unapply_map}

-- a change of three worlds that does the same in each keeps two of them alike
changed_alike : {X Y : Type 0} (R : X → Y → Type 0) (g : World X → World X) (h : World Y → World Y)
    (k : World (Related R) → World (Related R))
    → ((u : World (Related R)) → g (map_world left_of u) ≡ map_world left_of (k u))
    → ((u : World (Related R)) → h (map_world right_of u) ≡ map_world right_of (k u))
    → (w : World X) (v : World Y) → Alike R w v → Alike R (g w) (h v)
changed_alike R g h k first second w v a = record {
  pairs = k a.pairs;
  left = sym (first a.pairs) ∙ ap g a.left;
  right = sym (second a.pairs) ∙ ap h a.right;
}

pub new_is_alike : {X Y : Type 0} (R : X → Y → Type 0) → NewIsAlike R
new_is_alike R area random events version = record {
  pairs = new_world area random events version;
  left = sym (new_map left_of area random events version);
  right = sym (new_map right_of area random events version);
}

pub turn_done_keeps_alike : {X Y : Type 0} (R : X → Y → Type 0) → TurnDoneKeepsAlike R
turn_done_keeps_alike R o = changed_alike R (turn_done o) (turn_done o) (turn_done o)
    (turn_done_map left_of o) (turn_done_map right_of o)

pub unapply_keeps_alike : {X Y : Type 0} (R : X → Y → Type 0) → UnapplyKeepsAlike R
unapply_keeps_alike R o number = changed_alike R (unapply o number) (unapply o number)
    (unapply o number) (unapply_map left_of o number) (unapply_map right_of o number)

pub fault_keeps_alike : {X Y : Type 0} (R : X → Y → Type 0) → FaultKeepsAlike R
fault_keeps_alike R o = changed_alike R (fault o) (fault o) (fault o) (λ u. refl) (λ u. refl)

pub no_script_keeps_alike : {X Y : Type 0} (R : X → Y → Type 0) → NoScriptKeepsAlike R
no_script_keeps_alike R o name = changed_alike R (no_script o name) (no_script o name)
    (no_script o name) (λ u. refl) (λ u. refl)

pub too_deep_keeps_alike : {X Y : Type 0} (R : X → Y → Type 0) → TooDeepKeepsAlike R
too_deep_keeps_alike R o name = changed_alike R (too_deep o name) (too_deep o name)
    (too_deep o name) (λ u. refl) (λ u. refl)

pub drained_keeps_alike : {X Y : Type 0} (R : X → Y → Type 0) → DrainedKeepsAlike R
drained_keeps_alike R = changed_alike R drained drained drained (λ u. refl) (λ u. refl)

pub may_run_alike : {X Y : Type 0} (R : X → Y → Type 0) → MayRunAlike R
may_run_alike R caller target w v a = ap (may_run caller target) (sym a.left)
    ∙ ap (may_run caller target) a.right

-- ---- calls

-- an action of two sides
record Paired {X Y : Type 0} (R : X → Y → Type 0) (x : Option X) (y : Option Y) : Type 0 where
  pair : Option (Related R)
  left : option_map left_of pair ≡ x
  right : option_map right_of pair ≡ y

paired : {X Y : Type 0} (R : X → Y → Type 0) (x : Option X) (y : Option Y) → OptionAlike R x y
    → Paired R x y
paired R None None h = record { pair = None; left = refl; right = refl }
paired R (Some x) (Some y) h = record {
  pair = Some (record { left = x; right = y; related = h });
  left = refl;
  right = refl;
}
paired R None (Some y) h = absurd h
paired R (Some x) None h = absurd h

answered_alike : {X Y : Type 0} (R : X → Y → Type 0) (both : Answered (Related R)) (a : Answered X)
    (b : Answered Y)
    → a ≡ map_answered left_of both → b ≡ map_answered right_of both → AnsweredAlike R a b
answered_alike R both a b first second = record {
  value = ap (λ t. t.value) first ∙ sym (ap (λ t. t.value) second);
  world = record {
    pairs = both.world;
    left = sym (ap (λ t. t.world) first);
    right = sym (ap (λ t. t.world) second);
  };
}

pub engine_keeps_alike : {X Y : Type 0} (R : X → Y → Type 0) → EngineKeepsAlike R
engine_keeps_alike R table cell n caller values x y w v h a =
    let p = paired R x y h in
    answered_alike R (engine table cell n (call caller values p.pair) a.pairs)
    (engine table cell n (call caller values x) w) (engine table cell n (call caller values y) v)
    (ap₂ (λ z u. engine table cell n (call caller values z) u) (sym p.left) (sym a.left)
    ∙ engine_map left_of table cell n (call caller values p.pair) a.pairs)
    (ap₂ (λ z u. engine table cell n (call caller values z) u) (sym p.right) (sym a.right)
    ∙ engine_map right_of table cell n (call caller values p.pair) a.pairs)

-- ---- entries

kind_alike : {X Y : Type 0} (R : X → Y → Type 0) (k : Kind (Related R))
    → KindAlike R (map_kind left_of k) (map_kind right_of k)
kind_alike R (Event o script user) = (refl, refl, refl)
kind_alike R (Stored o p) = (refl, p.related)
kind_alike R (Turn o) = refl
kind_alike R (Unapply o) = refl

entry_alike : {X Y : Type 0} (R : X → Y → Type 0) (e : Entry (Related R))
    → EntryAlike R (map_entry left_of e) (map_entry right_of e)
entry_alike R e = record { due = refl; number = refl; kind = kind_alike R e.kind }

begun_alike : {X Y : Type 0} (R : X → Y → Type 0) (b : Option (Begun (Related R)))
    → BegunAlike R (option_map (map_begun left_of) b) (option_map (map_begun right_of) b)
begun_alike R None = tt
begun_alike R (Some b) = (
  entry_alike R b.entry,
  record { pairs = b.world; left = refl; right = refl },
)

pub begin_keeps_alike : {X Y : Type 0} (R : X → Y → Type 0) → BeginKeepsAlike R
begin_keeps_alike R until w v a =
    subst (λ b. BegunAlike R b (begin until v))
    (sym (begin_map left_of until a.pairs) ∙ ap (begin until) a.left)
    (subst (λ b. BegunAlike R (option_map (map_begun left_of) (begin until a.pairs)) b)
    (sym (begin_map right_of until a.pairs) ∙ ap (begin until) a.right)
    (begun_alike R (begin until a.pairs)))

option_alike : {X Y : Type 0} (R : X → Y → Type 0) (p : Option (Related R))
    → OptionAlike R (option_map left_of p) (option_map right_of p)
option_alike R None = tt
option_alike R (Some p) = p.related

turned_alike : {X Y : Type 0} (R : X → Y → Type 0) (t : Turned (Related R))
    → TurnedAlike R (map_turned left_of t) (map_turned right_of t)
turned_alike R t = record {
  action = option_alike R t.action;
  world = record { pairs = t.world; left = refl; right = refl };
}

pub turn_keeps_alike : {X Y : Type 0} (R : X → Y → Type 0) → TurnKeepsAlike R
turn_keeps_alike R o w v a =
    subst (λ t. TurnedAlike R t (turn o v)) (sym (turn_map left_of o a.pairs) ∙ ap (turn o) a.left)
    (subst (λ t. TurnedAlike R (map_turned left_of (turn o a.pairs)) t)
    (sym (turn_map right_of o a.pairs) ∙ ap (turn o) a.right)
    (turned_alike R (turn o a.pairs)))

-- worlds that are alike have told the same
pub trace_alike : {X Y : Type 0} (R : X → Y → Type 0) (w : World X) (v : World Y) → Alike R w v
    → w.trace ≡ v.trace
trace_alike R w v a = ap (λ u. u.trace) (sym a.left) ∙ ap (λ u. u.trace) a.right
