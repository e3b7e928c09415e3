-- What the small changes of a world leave of its values.
use Rattle.std.proofs.Common.{◌≡◌, ◌<◌, ◌≤◌, ◌+◌, ◌-◌, ℕ, ℤ, pos, negsuc, zero, suc, Bool, true, false, List, [], ◌∷◌, ◌++◌, length, get_or, Option, None, Some, refl, sym, ap, subst, arith}
use Rattle.std.specs.Prelude.{if◌then◌else◌}
use Rattle.std.specs.List.{AllByRecursion}
use Rattle.std.specs.Str.{bytes_eq}
use Rattle.nwq_value.specs.Effect.{Effect}
use Rattle.local_variables.specs.Variables.{Variable, IntVar, TextVar, first, int_of, text_of, same_variable, put}
use Rattle.area_rules.specs.Objects.{AreaObject, Script}
use Rattle.area_rules.specs.Area.{PlainArea, object_at, object, tagged, by_tag, script_named, variables_changed_at}
use Rattle.action_queue.specs.Queued.{Queued}
use Rattle.action_queue.specs.declared.queue.Item.{Item}
use Rattle.delay_agenda.specs.Order.{is_before, put_entry}
use Rattle.delay_agenda.specs.Waiting.{is_turn_of, without_turns}
use Rattle.delay_agenda.specs.declared.entry.Entry.{Entry}
use Rattle.delay_agenda.specs.declared.entry.Kind.{Kind}
use Rattle.delay_agenda.specs.declared.entry.Kind.TheVariants.{Unapply}
use Rattle.saved_state.specs.declared.saved.Saved.{Saved}
use Rattle.state_format.specs.Parts.{AreStateBytes, IsMaybe, IsNumber, IsSigned}
use Rattle.world_rules.specs.declared.data.Stood.{Stood}
use Rattle.world_rules.specs.declared.data.Things.{Things}
use Rattle.world_rules.specs.declared.data.Told.{Told}
use Rattle.world_rules.specs.World.{World, things_at, queue_in, effects_in, queue_of, effects_of}
use Rattle.world_rules.specs.Changes.{told, post, changed_at, changed_object, with_queue, with_effects, with_actions, with_busy, with_action, with_effect, with_variables, without_turn, without_first}
use Rattle.play_room.specs.Room.{IsText, EffectHasRoom, VariableHasRoom, ItemHasRoom, KindHasRoom}
use Rattle.play_room.specs.Kept.{ObjectIsKept, AreaIsKept, StoodIsKept, ThingsAreKept, object_of, EntryIsKept, WorldIsKept}
use Rattle.play_room.proofs.Lists.{all_append, all_weaker, some_of, either}
use Rattle.play_room.proofs.Texts.{no_text, zero_fits}

pub told_kept : (o : ℕ) (what : Told) (w : World Saved) → WorldIsKept w → WorldIsKept (told o what w)
told_kept o what w k = record { random = k.random; area = k.area; things = k.things; agenda = k.agenda; user = k.user }

-- ---- entries

all_put_if : (P : Entry Saved → Type 0) (b : Bool) (e a : Entry Saved) (rest more : List (Entry Saved))
    → P e → P a → AllByRecursion P rest → AllByRecursion P more → AllByRecursion P (if b then a ∷ more else e ∷ a ∷ rest)
all_put_if P true e a rest more pe pa ps qs = (pa, qs)
all_put_if P false e a rest more pe pa ps qs = (pe, (pa, ps))

pub all_put : (P : Entry Saved → Type 0) (e : Entry Saved) (es : List (Entry Saved)) → P e → AllByRecursion P es → AllByRecursion P (put_entry e es)
all_put P e [] pe ps = (pe, tt)
all_put P e (a ∷ rest) pe ps = all_put_if P (is_before a e) e a rest (put_entry e rest) pe ps.0 ps.1 (all_put P e rest pe ps.1)

all_without : (P : Entry Saved → Type 0) (o : ℕ) (es : List (Entry Saved)) → AllByRecursion P es → AllByRecursion P (without_turns o es)
all_without P o [] ps = tt
all_without P o (e ∷ es) ps = either (AllByRecursion P) (is_turn_of o e) (without_turns o es) (e ∷ without_turns o es) (all_without P o es ps.1) (ps.0, all_without P o es ps.1)

-- more entries may be posted
stood_later : (n m : ℕ) → n ≤ m → (s : Stood) → StoodIsKept n s → StoodIsKept m s
stood_later n m up s k = (below s.number k.0, k.1)
  where
    below : (number : Option ℕ) → IsMaybe (λ (i : ℕ). i < n) number → IsMaybe (λ (i : ℕ). i < m) number
    below None h = tt
    below (Some i) h = omega (arith, h, up)

effects_later : (n m : ℕ) → n ≤ m → (effects : List Stood) → AllByRecursion (StoodIsKept n) effects → AllByRecursion (StoodIsKept m) effects
effects_later n m up effects all = all_weaker (StoodIsKept n) (StoodIsKept m) (stood_later n m up) effects all

pub things_later : (n m : ℕ) → n ≤ m → (things : List (Things Saved)) → AllByRecursion (ThingsAreKept n) things → AllByRecursion (ThingsAreKept m) things
things_later n m up things all =
    all_weaker (ThingsAreKept n) (ThingsAreKept m) (λ (t : Things Saved) h. record { effects = effects_later n m up t.effects h.effects; items = h.items }) things all

-- an entry of an object whose number fits
pub post_kept : (due : ℕ) (kind : Kind Saved) (w : World Saved) → IsNumber 4 (object_of kind) → KindHasRoom kind → WorldIsKept w → WorldIsKept (post due kind w)
post_kept due kind w number room k = record {
  random = k.random;
  area = k.area;
  things = things_later w.agenda.next (w.agenda.next + 1) (omega arith) w.things k.things;
  agenda = all_put EntryIsKept (record { due = due; number = w.agenda.next; kind = kind }) w.agenda.entries (number, room) k.agenda;
  user = k.user;
}

pub without_turn_kept : (o : ℕ) (w : World Saved) → WorldIsKept w → WorldIsKept (without_turn o w)
without_turn_kept o w k = record { random = k.random; area = k.area; things = k.things; agenda = all_without EntryIsKept o w.agenda.entries k.agenda; user = k.user }

-- ---- things of objects

all_changed : {A : Type 0} (P : A → Type 0) (i : ℕ) (change : A → A) (xs : List A) → ((x : A) → P x → P (change x)) → AllByRecursion P xs → AllByRecursion P (changed_at i change xs)
all_changed P i change [] keeps ps = tt
all_changed P zero change (x ∷ xs) keeps ps = (keeps x ps.0, ps.1)
all_changed P (suc i) change (x ∷ xs) keeps ps = (ps.0, all_changed P i change xs keeps ps.1)

pub things_changed : (next o : ℕ) (change : Things Saved → Things Saved) (things : List (Things Saved)) → ((t : Things Saved) → ThingsAreKept next t → ThingsAreKept next (change t))
    → AllByRecursion (ThingsAreKept next) things → AllByRecursion (ThingsAreKept next) (changed_object o change things)
things_changed next zero change things keeps all = all
things_changed next (suc i) change things keeps all = all_changed (ThingsAreKept next) i change things keeps all

things_kept : (next o : ℕ) (things : List (Things Saved)) → AllByRecursion (ThingsAreKept next) things → IsMaybe (ThingsAreKept next) (things_at o things)
things_kept next zero things all = tt
things_kept next (suc i) things all = some_of (ThingsAreKept next) things i all

items_in : (next : ℕ) (t : Option (Things Saved)) → IsMaybe (ThingsAreKept next) t → AllByRecursion ItemHasRoom (queue_in t).actions
items_in next None h = tt
items_in next (Some t) h = h.items

stood_in : (next : ℕ) (t : Option (Things Saved)) → IsMaybe (ThingsAreKept next) t → AllByRecursion (StoodIsKept next) (effects_in t)
stood_in next None h = tt
stood_in next (Some t) h = h.effects

pub items_of : (o : ℕ) (w : World Saved) → WorldIsKept w → AllByRecursion ItemHasRoom (queue_of o w).actions
items_of o w k = items_in w.agenda.next (things_at o w.things) (things_kept w.agenda.next o w.things k.things)

pub stood_of : (o : ℕ) (w : World Saved) → WorldIsKept w → AllByRecursion (StoodIsKept w.agenda.next) (effects_of o w)
stood_of o w k = stood_in w.agenda.next (things_at o w.things) (things_kept w.agenda.next o w.things k.things)

pub queue_kept : (o : ℕ) (q : Queued Saved) (w : World Saved) → AllByRecursion ItemHasRoom q.actions → WorldIsKept w → WorldIsKept (with_queue o q w)
queue_kept o q w items k = record {
  random = k.random;
  area = k.area;
  things = things_changed w.agenda.next o _ w.things (λ t h. record { effects = h.effects; items = items }) k.things;
  agenda = k.agenda;
  user = k.user;
}

pub actions_kept : (o : ℕ) (actions : List (Item Saved)) (w : World Saved) → AllByRecursion ItemHasRoom actions → WorldIsKept w → WorldIsKept (with_actions o actions w)
actions_kept o actions w items k = queue_kept o (record (queue_of o w) { actions = actions }) w items k

pub busy_kept : (o : ℕ) (busy : Bool) (w : World Saved) → WorldIsKept w → WorldIsKept (with_busy o busy w)
busy_kept o busy w k = queue_kept o (record (queue_of o w) { busy = busy }) w (items_of o w k) k

pub action_kept : (o : ℕ) (item : Item Saved) (w : World Saved) → ItemHasRoom item → WorldIsKept w → WorldIsKept (with_action o item w)
action_kept o item w room k =
    actions_kept o ((queue_of o w).actions ++ item ∷ []) w (all_append ItemHasRoom (queue_of o w).actions (item ∷ []) (items_of o w k) (room, tt)) k

pub effects_kept : (o : ℕ) (effects : List Stood) (w : World Saved) → AllByRecursion (StoodIsKept w.agenda.next) effects → WorldIsKept w → WorldIsKept (with_effects o effects w)
effects_kept o effects w stand k = record {
  random = k.random;
  area = k.area;
  things = things_changed w.agenda.next o _ w.things (λ t h. record { effects = stand; items = h.items }) k.things;
  agenda = k.agenda;
  user = k.user;
}

-- a lasting effect
pub lasting_kept : (o : ℕ) (e : Effect) (w : World Saved) → EffectHasRoom e → WorldIsKept w → WorldIsKept (with_effect o None e w)
lasting_kept o e w room k =
    let stood : Stood = record { number = None; effect = e } in
    effects_kept o (effects_of o w ++ stood ∷ []) w (all_append (StoodIsKept w.agenda.next) (effects_of o w) (stood ∷ []) (stood_of o w k) ((tt, room), tt)) k

-- an effect for a time, and the entry that ends it
pub passing_kept : (due o : ℕ) (e : Effect) (w : World Saved) → IsNumber 4 o → EffectHasRoom e → WorldIsKept w
    → WorldIsKept (post due (Unapply o) (with_effect o (Some w.agenda.next) e w))
passing_kept due o e w number room k =
    let stood : Stood = record { number = Some w.agenda.next; effect = e } in
    let next = w.agenda.next + 1 in
    let stand = all_append (StoodIsKept next) (effects_of o w) (stood ∷ []) (effects_later w.agenda.next next (omega arith) (effects_of o w) (stood_of o w k)) ((omega arith, room), tt) in
    record {
      random = k.random;
      area = k.area;
      things = things_changed next o _ w.things (λ t h. record { effects = stand; items = h.items }) (things_later w.agenda.next next (omega arith) w.things k.things);
      agenda = all_put EntryIsKept (record { due = due; number = w.agenda.next; kind = Unapply o }) w.agenda.entries (number, tt) k.agenda;
      user = k.user;
    }

pub fewer_kept : {A : Type 0} (P : A → Type 0) (test : A → Bool) (xs : List A) → AllByRecursion P xs → AllByRecursion P (without_first test xs)
fewer_kept P test [] ps = tt
fewer_kept P test (x ∷ xs) ps = either (AllByRecursion P) (test x) xs (x ∷ without_first test xs) ps.1 (ps.0, fewer_kept P test xs ps.1)

-- ---- objects

-- a change of an object's variables that keeps them
abbrev pub KeepsVariables : (List Variable → List Variable) → Type 0
KeepsVariables change = (vars : List Variable) → AllByRecursion VariableHasRoom vars → AllByRecursion VariableHasRoom (change vars)

objects_stay : (i : ℕ) (change : List Variable → List Variable) → KeepsVariables change → (os : List AreaObject)
    → AllByRecursion ObjectIsKept os → AllByRecursion ObjectIsKept (variables_changed_at i change os)
objects_stay i change keeps [] all = tt
objects_stay zero change keeps (o ∷ os) all = (record { tag = all.0.tag; scripts = all.0.scripts; vars = keeps o.vars all.0.vars }, all.1)
objects_stay (suc i) change keeps (o ∷ os) all = (all.0, objects_stay i change keeps os all.1)

count_stays : (i : ℕ) (change : List Variable → List Variable) (os : List AreaObject) → length (variables_changed_at i change os) ≡ length os
count_stays i change [] = refl
count_stays zero change (o ∷ os) = refl
count_stays (suc i) change (o ∷ os) = ap suc (count_stays i change os)

pub variables_kept : (o : ℕ) (change : List Variable → List Variable) (w : World Saved) → KeepsVariables change → WorldIsKept w → WorldIsKept (with_variables o change w)
variables_kept o change w keeps k = record {
  random = k.random;
  area = record {
    few = subst (IsNumber 4) (sym (count_stays (o - 1) change w.area.objects)) k.area.few;
    objects = objects_stay (o - 1) change keeps w.area.objects k.area.objects;
  };
  things = k.things;
  agenda = k.agenda;
  user = k.user;
}

pub put_keeps : (v : Variable) → VariableHasRoom v → KeepsVariables (put v)
put_keeps v room [] all = (room, tt)
put_keeps v room (w ∷ vars) all = either (AllByRecursion VariableHasRoom) (same_variable v w) (v ∷ vars) (w ∷ put v vars) (room, all.1) (all.0, put_keeps v room vars all.1)

one_kept : (os : List AreaObject) (i : ℕ) → AllByRecursion ObjectIsKept os → ObjectIsKept (object_at os i)
one_kept [] i all = record { tag = tt; scripts = tt; vars = tt }
one_kept (o ∷ os) zero all = all.0
one_kept (o ∷ os) (suc i) all = one_kept os i all.1

pub object_kept : (area : PlainArea) (o : ℕ) → AreaIsKept area → ObjectIsKept (object area o)
object_kept area o k = one_kept area.objects (o - 1) k.objects

abbrev IsNamed : Script → Type 0
IsNamed s = IsText s.name

pub named_text : (label : List ℕ) (scripts : List Script) → AllByRecursion IsNamed scripts → IsText (script_named label scripts)
named_text label [] all = no_text
named_text label (s ∷ scripts) all = either IsText (bytes_eq label s.label) s.name (script_named label scripts) all.0 (named_text label scripts all.1)

-- what is read of variables
first_kept : (test : Variable → Bool) (vars : List Variable) → AllByRecursion VariableHasRoom vars → IsMaybe VariableHasRoom (first test vars)
first_kept test [] all = tt
first_kept test (v ∷ vars) all = either (IsMaybe VariableHasRoom) (test v) (Some v) (first test vars) all.0 (first_kept test vars all.1)

int_kept : (v : Option Variable) → IsMaybe VariableHasRoom v → IsSigned (int_of v)
int_kept None h = zero_fits
int_kept (Some (IntVar name n)) h = h.1
int_kept (Some (TextVar name text)) h = zero_fits

text_kept : (v : Option Variable) → IsMaybe VariableHasRoom v → AreStateBytes (text_of v)
text_kept None h = tt
text_kept (Some (IntVar name n)) h = tt
text_kept (Some (TextVar name text)) h = h.1

pub read_int : (test : Variable → Bool) (vars : List Variable) → AllByRecursion VariableHasRoom vars → IsSigned (int_of (first test vars))
read_int test vars all = int_kept (first test vars) (first_kept test vars all)

pub read_text : (test : Variable → Bool) (vars : List Variable) → AllByRecursion VariableHasRoom vars → AreStateBytes (text_of (first test vars))
read_text test vars all = text_kept (first test vars) (first_kept test vars all)

-- ---- numbers of objects by their tags

abbrev AreUpTo : ℕ → List ℕ → Type 0
AreUpTo most ns = AllByRecursion (λ (n : ℕ). n ≤ most) ns

tagged_few : (tag : List ℕ) (n most : ℕ) (os : List AreaObject) → n + length os ≤ suc most → AreUpTo most (tagged tag n os)
tagged_few tag n most [] few = tt
tagged_few tag n most (o ∷ os) few =
    let rest = tagged_few tag (suc n) most os (omega (arith, few)) in
    either (AreUpTo most) (bytes_eq tag o.tag) (n ∷ tagged tag (suc n) os) (tagged tag (suc n) os) (omega (arith, few), rest) rest

one_few : (ns : List ℕ) (i most : ℕ) → AreUpTo most ns → get_or ns i 0 ≤ most
one_few [] i most all = omega arith
one_few (n ∷ ns) zero most all = all.0
one_few (n ∷ ns) (suc i) most all = one_few ns i most all.1

pub tag_number : (area : PlainArea) (tag : List ℕ) (nth : ℤ) → AreaIsKept area → IsNumber 4 (by_tag area tag nth)
tag_number area tag (pos nth) k =
    let few = k.few in
    let small = one_few (tagged tag 1 area.objects) nth (length area.objects) (tagged_few tag 1 (length area.objects) area.objects (omega arith)) in
    omega (arith, few, small)
tag_number area tag (negsuc nth) k = omega arith
