-- Entries begin and do the same where the stored actions are changed.
use Rattle.std.proofs.Common.{◌≡◌, ℕ, ℤ, pos, zero, suc, false, List, [], ◌∷◌, map, length, Option, None, Some, refl, sym, ap, ◌∙◌}
use Rattle.std.specs.Prelude.{if◌then◌else◌, nat_le, replicate}
use Rattle.std.specs.Option.{option_map}
use Rattle.std.specs.List.{fold, find}
use Rattle.action_queue.specs.declared.queue.Item.{Item}
use Rattle.action_queue.specs.declared.queue.Item.TheVariants.{Do, Wait, Speak}
use Rattle.area_rules.specs.Area.{PlainArea}
use Rattle.delay_agenda.specs.declared.entry.Entry.{Entry}
use Rattle.delay_agenda.specs.declared.entry.Kind.{Kind}
use Rattle.delay_agenda.specs.declared.entry.Kind.TheVariants.{Event, Stored, Turn, Unapply}
use Rattle.world_rules.specs.declared.data.Stood.{Stood}
use Rattle.world_rules.specs.declared.data.Told.TheVariants as line
use Rattle.world_rules.specs.World.{World, queue_of, effects_of}
use Rattle.world_rules.specs.Changes.{told, post, later, with_actions, with_effects, without_first, is_numbered}
use Rattle.world_rules.specs.Turns.{Planned, idle, still, with_planned, new_world, user_number, with_entries, entry_begun, begin, next_turn, turn_done, turned, turn, expired, unapply}
use Rattle.world_rules.specs.Mapped.{map_kind, map_entry, map_item, map_things, map_world, map_begun, map_turned}
use Rattle.world_rules.specs.WorldMaps.{map_if, post_map, queue_map, effects_map, with_effects_map, with_actions_map, with_busy_map}

-- ---- the world at the beginning

idle_map : {X Y : Type 0} (f : X → Y) (n : ℕ)
    → replicate n (idle {X = Y}) ≡ map (map_things f) (replicate n idle)
idle_map f zero = refl
idle_map f (suc n) = ap (λ l. idle ∷ l) (idle_map f n)

planned_map : {X Y : Type 0} (f : X → Y) (events : List Planned) (w : World X)
    → fold with_planned (map_world f w) events ≡ map_world f (fold with_planned w events)
planned_map f [] w = refl
planned_map f (p ∷ events) w =
    ap (λ v. fold with_planned v events) (post_map f p.due (Event p.object p.script (pos 0)) w)
    ∙ planned_map f events (with_planned w p)

pub new_map : {X Y : Type 0} (f : X → Y) (area : PlainArea) (random : List ℕ)
    (events : List Planned) (version : ℕ)
    → new_world area random events version ≡ map_world f (new_world area random events version)
new_map f area random events version =
    ap (λ ts. fold with_planned (record (still area random version) { things = ts }) events)
    (idle_map f (length area.objects))
    ∙ planned_map f events (still area random version)

-- ---- the next entry

user_map : {X Y : Type 0} (f : X → Y) (k : Kind X) → user_number (map_kind f k) ≡ user_number k
user_map f (Event o script user) = refl
user_map f (Stored o x) = refl
user_map f (Turn o) = refl
user_map f (Unapply o) = refl

begun_map : {X Y : Type 0} (f : X → Y) (until : ℕ) (es : List (Entry X)) (w : World X)
    → entry_begun until (map (map_entry f) es) (map_world f w)
    ≡ option_map (map_begun f) (entry_begun until es w)
begun_map f until [] w = refl
begun_map f until (e ∷ rest) w =
    ap (λ (n : ℤ). if nat_le e.due until then Some
    (record {
      entry = map_entry f e;
      world = record (with_entries (map (map_entry f) rest) (map_world f w)) {
        clock = e.due;
        user = n;
      };
    }) else None)
    (user_map f e.kind)
    ∙ map_if (option_map (map_begun f)) (nat_le e.due until)
    (Some (record {
      entry = e;
      world = record (with_entries rest w) { clock = e.due; user = user_number e.kind };
    })) None

pub begin_map : {X Y : Type 0} (f : X → Y) (until : ℕ) (w : World X)
    → begin until (map_world f w) ≡ option_map (map_begun f) (begin until w)
begin_map f until w = begun_map f until w.agenda.entries w

-- ---- a Turn

next_turn_map : {X Y : Type 0} (f : X → Y) (o : ℕ) (items : List (Item X)) (w : World X)
    → next_turn o (map (map_item f) items) (map_world f w) ≡ map_world f (next_turn o items w)
next_turn_map f o [] w = with_busy_map f o false w
next_turn_map f o (item ∷ rest) w = post_map f w.clock (Turn o) w

pub turn_done_map : {X Y : Type 0} (f : X → Y) (o : ℕ) (w : World X)
    → turn_done o (map_world f w) ≡ map_world f (turn_done o w)
turn_done_map f o w = ap (λ q. next_turn o q.actions (map_world f w)) (queue_map f o w)
    ∙ next_turn_map f o (queue_of o w).actions w

turned_map : {X Y : Type 0} (f : X → Y) (o : ℕ) (items : List (Item X)) (w : World X)
    → turned o (map (map_item f) items) (map_world f w) ≡ map_turned f (turned o items w)
turned_map f o [] w = ap (λ v. record { action = None; world = v }) (with_busy_map f o false w)
turned_map f o (Do x ∷ rest) w = ap (λ v. record { action = Some (f x); world = v })
    (with_actions_map f o rest w)
turned_map f o (Wait ms ∷ rest) w = ap (λ v. record { action = None; world = v })
    (ap (λ v. post (later ms w) (Turn o) v) (with_actions_map f o rest w)
    ∙ post_map f (later ms w) (Turn o) (with_actions o rest w))
turned_map f o (Speak bytes ∷ rest) w = ap (λ v. record { action = None; world = v })
    (ap (λ v. turn_done o (told o (line.Speak bytes) v)) (with_actions_map f o rest w)
    ∙ turn_done_map f o (told o (line.Speak bytes) (with_actions o rest w)))

pub turn_map : {X Y : Type 0} (f : X → Y) (o : ℕ) (w : World X)
    → turn o (map_world f w) ≡ map_turned f (turn o w)
turn_map f o w = ap (λ q. turned o q.actions (map_world f w)) (queue_map f o w)
    ∙ turned_map f o (queue_of o w).actions w

-- ---- effects that end

abbrev expired_from : {X : Type 0} → ℕ → ℕ → List Stood → Option Stood → World X → World X
expired_from o number effects None w = w
expired_from o number effects (Some s) w = told o (line.Expire s.effect)
    (with_effects o (without_first (is_numbered number) effects) w)

same_expired : {X : Type 0} (o number : ℕ) (s : Option Stood) (w : World X)
    → expired o number s w ≡ expired_from o number (effects_of o w) s w
same_expired o number None w = refl
same_expired o number (Some s) w = refl

expired_map : {X Y : Type 0} (f : X → Y) (o number : ℕ) (s : Option Stood) (effects : List Stood)
    (w : World X)
    → expired_from o number effects s (map_world f w)
    ≡ map_world f (expired_from o number effects s w)
expired_map f o number None effects w = refl
expired_map f o number (Some s) effects w = ap (λ v. told o (line.Expire s.effect) v)
    (with_effects_map f o (without_first (is_numbered number) effects) w)

pub unapply_map : {X Y : Type 0} (f : X → Y) (o number : ℕ) (w : World X)
    → unapply o number (map_world f w) ≡ map_world f (unapply o number w)
unapply_map f o number w =
    same_expired o number (find (is_numbered number) (effects_of o (map_world f w))) (map_world f w)
    ∙ (ap (λ effects. expired_from o number effects (find (is_numbered number) effects)
    (map_world f w)) (effects_map f o w)
    ∙ (expired_map f o number (find (is_numbered number) (effects_of o w)) (effects_of o w) w
    ∙ ap (map_world f) (sym (same_expired o number
    (find (is_numbered number) (effects_of o w)) w))))
