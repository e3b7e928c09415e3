-- What entries do keeps what worlds keep.
use Rattle.std.proofs.Common.{◌≡◌, ℕ, pos, ◌≤◌, zero, suc, Bool, true, false, List, [], ◌∷◌, length, drop, Option, None, Some, refl, ap, subst, ◌∙◌, inl, inr, arith}
use Rattle.std.specs.Prelude.{if◌then◌else◌, nat_le, IfSome, replicate}
use Rattle.std.specs.List.{AllByRecursion, find, fold}
use Rattle.std.proofs.lemmas.Bool.Decides.{nat_tests}
use Rattle.action_queue.specs.declared.queue.Item.{Item}
use Rattle.action_queue.specs.declared.queue.Item.TheVariants.{Do, Wait, Speak}
use Rattle.area_rules.specs.Area.{PlainArea}
use Rattle.delay_agenda.specs.Laws.{TakeKeeps}
use Rattle.delay_agenda.specs.Order.{IsBefore, IsBeforeAll, AreInOrder}
use Rattle.delay_agenda.specs.Waiting.{IsAgenda, is_turn_kind, is_turn_of, turn_count}
use Rattle.delay_agenda.specs.declared.entry.Entry.{Entry}
use Rattle.delay_agenda.specs.declared.entry.Kind.TheVariants.{Event, Turn}
use Rattle.world_rules.specs.declared.data.Stood.{Stood}
use Rattle.world_rules.specs.declared.data.Told.TheVariants as line
use Rattle.world_rules.specs.World.{World, count, queue_of, effects_of}
use Rattle.world_rules.specs.Changes.{told, later, with_actions, with_busy, with_effects, without_first, is_numbered}
use Rattle.world_rules.specs.Turns.{Planned, idle, still, with_planned, user_number, with_entries, entry_begun, next_turn, turn_done, turned, expired, unapply, fault, drained}
use Rattle.world_rules.specs.Engine.{no_script, too_deep}
use Rattle.world_rules.specs.Settled.{stays_on}
use Rattle.world_rules.specs.Kept.{IsPlaced, turns_allowed, IsWorld, IsActing, IsBegun, IsTurned, IsDone, NewIsWorld, BeginKeeps, TurnKeeps, TurnDoneKeeps, UnapplyKeeps, FaultKeeps, NoScriptKeeps}
use Rattle.world_rules.specs.Kept.{TooDeepKeeps, DrainedKeeps}
use Rattle.world_rules.proofs.KeptLemmas.{AgendaLaws, SameMarks, marks_join, marks_actions, marks_kept, marks_acting, SameShape, same_shape, shapes_join, shape_effects, shape_marks, shape_step}
use Rattle.world_rules.proofs.KeptLemmas.{post_kept, stays_by, stays_post, stays_put, soon_later, late_later, nat_eq_same, valid_tells, turn_kept, mark_kept}
use Rattle.world_rules.proofs.RowsKept.{shape_told}

-- ---- what only tells

pub fault_keeps : {X : Type 0} → FaultKeeps X
fault_keeps o w h = shape_step w (fault o w) (shape_told o line.Divide w) h

pub no_script_keeps : {X : Type 0} → NoScriptKeeps X
no_script_keeps o name w h = shape_step w (no_script o name w) (shape_told o (line.NoScript name) w) h

pub too_deep_keeps : {X : Type 0} → TooDeepKeeps X
too_deep_keeps o name w h = shape_step w (too_deep o name w) (shape_told o (line.Deep name) w) h

pub drained_keeps : {X : Type 0} → DrainedKeeps X
drained_keeps w h = shape_step w (drained w) (record {
  clock = refl;
  objects = refl;
  things = refl;
  agenda = refl;
  queues = λ p. refl;
  plan = stays_by w (drained w) refl refl (λ most few. few) refl refl;
}) h

shape_expired : {X : Type 0} (o number : ℕ) (s : Option Stood) (w : World X) → SameShape w (expired o number s w)
shape_expired o number None w = same_shape w
shape_expired o number (Some s) w =
    let v = with_effects o (without_first (is_numbered number) (effects_of o w)) w in
    shapes_join w v (told o (line.Expire s.effect) v) (shape_effects o (without_first (is_numbered number) (effects_of o w)) w) (shape_told o (line.Expire s.effect) v)

pub unapply_keeps : {X : Type 0} → UnapplyKeeps X
unapply_keeps o number w h = shape_step w (unapply o number w) (shape_expired o number (find (is_numbered number) (effects_of o w)) w) h

-- ---- a Turn

next_turn_done : {X : Type 0} (laws : AgendaLaws X) (o : ℕ) (items : List (Item X)) (w : World X) → IsWorld w → IsActing o w → 1 ≤ o → o ≤ count w → IsDone w (next_turn o items w)
next_turn_done laws o [] w h a one most = record {
  world = mark_kept o false w a.none h;
  objects = refl;
  clock = refl;
  no_less = omega arith;
  at_most_one = omega arith;
  plan = stays_by w (with_busy o false w) refl refl (λ most few. few) refl refl;
}
next_turn_done laws o (item ∷ rest) w h a one most = record {
  world = turn_kept laws w.clock o w h a one most (omega arith);
  objects = refl;
  clock = refl;
  no_less = omega arith;
  at_most_one = omega arith;
  plan = stays_post w.clock (Turn o) w (omega arith);
}

pub turn_done_keeps : {X : Type 0} → AgendaLaws X → TurnDoneKeeps X
turn_done_keeps laws o w h valid a = next_turn_done laws o (queue_of o w).actions w h a (valid_tells o w valid).0 (valid_tells o w valid).1

-- the end of a Turn, behind a change that leaves the shape
done_after : {X : Type 0} (o : ℕ) (w v u : World X) → SameMarks w v → IsDone v u → IsTurned o w (record { action = None; world = u })
done_after o w v u s d =
    let next = ap (λ g. g.next) s.agenda in
    let less = d.no_less in
    let most = d.at_most_one in
    record {
      world = d.world;
      objects = d.objects ∙ s.objects;
      clock = d.clock ∙ s.clock;
      no_less = omega (arith, next, less);
      at_most_one = omega (arith, next, most);
      acting = tt;
      plan = λ until. stays_on until w v u (s.plan until) (d.plan until);
    }

turned_keeps : {X : Type 0} (laws : AgendaLaws X) (o : ℕ) (items : List (Item X)) (w : World X) → IsWorld w → IsActing o w → 1 ≤ o → o ≤ count w → IsTurned o w (turned o items w)
turned_keeps laws o [] w h a one most = record {
  world = mark_kept o false w a.none h;
  objects = refl;
  clock = refl;
  no_less = omega arith;
  at_most_one = omega arith;
  acting = tt;
  plan = stays_by w (with_busy o false w) refl refl (λ most few. few) refl refl;
}
turned_keeps laws o (Do x ∷ rest) w h a one most = let s = marks_actions o rest w in record {
  world = marks_kept w (with_actions o rest w) s h;
  objects = refl;
  clock = refl;
  no_less = omega arith;
  at_most_one = omega arith;
  acting = marks_acting w (with_actions o rest w) s o a;
  plan = s.plan;
}
turned_keeps laws o (Wait ms ∷ rest) w h a one most = let s = marks_actions o rest w in record {
  world = turn_kept laws (later ms w) o (with_actions o rest w) (marks_kept w (with_actions o rest w) s h) (marks_acting w (with_actions o rest w) s o a) one most (late_later ms w);
  objects = refl;
  clock = refl;
  no_less = omega arith;
  at_most_one = omega arith;
  acting = tt;
  plan = stays_put (later ms w) (Turn o) w (with_actions o rest w) s.plan (soon_later ms w);
}
turned_keeps laws o (Speak bytes ∷ rest) w h a one most =
    let v = with_actions o rest w in
    let t = told o (line.Speak bytes) v in
    let s = marks_join w v t (marks_actions o rest w) (shape_marks v t (shape_told o (line.Speak bytes) v)) in
    done_after o w t (turn_done o t) s
    (next_turn_done laws o (queue_of o t).actions t (marks_kept w t s h) (marks_acting w t s o a) one most)

pub turn_keeps : {X : Type 0} → AgendaLaws X → TurnKeeps X
turn_keeps laws o w h valid a = turned_keeps laws o (queue_of o w).actions w h a (valid_tells o w valid).0 (valid_tells o w valid).1

-- ---- the next entry

due_when : {X : Type 0} (e a : Entry X) → IsBefore e a → e.due ≤ a.due
due_when e a (inl less) = omega arith
due_when e a (inr tie) = omega (arith, tie.0)

due_behind : {X : Type 0} (e : Entry X) (es : List (Entry X)) → IsBeforeAll e es → AllByRecursion (λ (a : Entry X). e.due ≤ a.due) es
due_behind e [] before = tt
due_behind e (a ∷ es) before = (due_when e a before.0, due_behind e es before.1)

less_if : (b : Bool) (n most : ℕ) → (if b then suc n else n) ≤ most → n ≤ most
less_if true n most h = omega (arith, h)
less_if false n most h = h

acts_if : (mark : Bool) (n : ℕ) → suc n ≤ turns_allowed mark → (mark ≡ true) × (n ≡ 0)
acts_if true n h = (refl, omega (arith, h))
acts_if false n h = absurd (omega (arith, h))

-- a Turn that is taken was its object's only one
own_turn : {X : Type 0} (o : ℕ) (e : Entry X) (es : List (Entry X)) (mark : Bool) → e.kind ≡ Turn o → turn_count o (e ∷ es) ≤ turns_allowed mark
    → (mark ≡ true) × (turn_count o es ≡ 0)
own_turn o e es mark same h = acts_if mark (turn_count o es)
    (subst (λ b. (if b then suc (turn_count o es) else turn_count o es) ≤ turns_allowed mark) (ap (is_turn_kind o) same ∙ nat_eq_same o) h)

begun_if : {X : Type 0} (take : TakeKeeps X) (b : Bool) (until : ℕ) (e : Entry X) (rest : List (Entry X)) (w : World X)
    → w.agenda.entries ≡ e ∷ rest → (b ≡ true → e.due ≤ until) → IsWorld w
    → IfSome (if b then Some (record { entry = e; world = record (with_entries rest w) { clock = e.due; user = user_number e.kind } }) else None) (IsBegun until w)
begun_if take true until e rest w same due h =
    let order = subst AreInOrder same h.agenda.order in
    let placed = subst (λ es. AllByRecursion (λ (a : Entry _). IsPlaced (count w) a.kind) es) same h.placed in
    let turns = λ (o : ℕ). subst (λ es. turn_count o es ≤ turns_allowed (queue_of o w).busy) same (h.turns o) in
    record {
      world = record {
        counted = h.counted;
        agenda = subst (λ es. IsAgenda (record w.agenda { entries = drop 1 es })) same (take w.agenda h.agenda);
        placed = placed.1;
        due = due_behind e rest order.0;
        turns = λ o. less_if (is_turn_of o e) (turn_count o rest) (turns_allowed (queue_of o w).busy) (turns o);
      };
      objects = refl;
      due = due refl;
      clock = refl;
      next = refl;
      placed = placed.0;
      acting = λ o own. let k = own_turn o e rest (queue_of o w).busy own (turns o) in record { busy = k.0; none = k.1 };
      plan = record {
        tree = refl;
        version = refl;
        random = λ most few. few;
        clock = λ early. due refl;
        due = λ early time late all. (subst (λ es. AllByRecursion (λ (a : Entry _). a.due ≤ time) es) same all).1;
      };
    }
begun_if take false until e rest w same due h = tt

begun_keeps : {X : Type 0} (take : TakeKeeps X) (until : ℕ) (es : List (Entry X)) (w : World X) → w.agenda.entries ≡ es → IsWorld w → IfSome (entry_begun until es w) (IsBegun until w)
begun_keeps take until [] w same h = tt
begun_keeps take until (e ∷ rest) w same h = begun_if take (nat_le e.due until) until e rest w same (λ due. grind (arith, nat_tests, due)) h

pub begin_keeps : {X : Type 0} → TakeKeeps X → BeginKeeps X
begin_keeps take until w h = begun_keeps take until w.agenda.entries w refl h

-- ---- the world at the beginning

idle_length : (X : Type 0) (n : ℕ) → length (replicate n (idle {X = X})) ≡ n
idle_length X zero = refl
idle_length X (suc n) = ap suc (idle_length X n)

pub still_kept : {X : Type 0} (area : PlainArea) (random : List ℕ) (version : ℕ) → IsWorld (still {X = X} area random version)
still_kept area random version = record {
  counted = idle_length _ (length area.objects);
  agenda = record { order = tt; below = tt; distinct = tt };
  placed = tt;
  due = tt;
  turns = λ o. omega arith;
}

planned_kept : {X : Type 0} (laws : AgendaLaws X) (n : ℕ) (events : List Planned) (w : World X) → IsWorld w → count w ≡ n → w.clock ≡ 0
    → AllByRecursion (λ (p : Planned). p.object ≤ n) events → IsWorld (fold with_planned w events)
planned_kept laws n [] w h objects clock all = h
planned_kept laws n (p ∷ events) w h objects clock all =
    let placed = all.0 in
    let kept = post_kept laws p.due (Event p.object p.script (pos 0)) w h (omega (arith, placed, objects)) (omega (arith, clock)) (λ o. refl) in
    planned_kept laws n events (with_planned w p) kept objects clock all.1

pub new_is_world : {X : Type 0} → AgendaLaws X → NewIsWorld X
new_is_world laws area random events version all = planned_kept laws (length area.objects) events (still area random version) (still_kept area random version) refl refl all
