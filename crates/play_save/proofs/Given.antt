-- The world that is put together of a state's parts.
use Rattle.std.proofs.Common.{◌≡◌, ◌<◌, ◌≤◌, ℕ, zero, suc, ◌+◌, List, [], ◌∷◌, length, take, get_or, map, sym, ap, refl, ◌∙◌, subst, add-one, inl, inr, arith}
use Rattle.std.specs.Prelude.{pos, Option, Some, None, slice_get}
use Rattle.std.specs.Option.{option_map}
use Rattle.std.specs.List.{AllByRecursion, IsDistinct}
use Rattle.std.proofs.lemmas.List.{take_all}
use Rattle.local_variables.specs.Variables.{Variable, same_variable}
use Rattle.area_rules.specs.Objects.{AreaObject, objects_of}
use Rattle.area_rules.specs.Area.{PlainArea, changed, variables_changed_at}
use Rattle.delay_agenda.specs.declared.entry.Entry.{Entry}
use Rattle.delay_agenda.specs.Waiting.{Waiting, IsAgenda, turn_count}
use Rattle.world_rules.specs.declared.data.Things.{Things}
use Rattle.world_rules.specs.World.{World, queue_of, queue_in}
use Rattle.world_rules.specs.Kept.{IsWorld, IsPlaced, turns_allowed}
use Rattle.saved_state.specs.declared.saved.Saved.{Saved}
use Rattle.state_format.specs.declared.parts.Variable.{Variable as VariablePart}
use Rattle.state_format.specs.declared.parts.Object.{Object}
use Rattle.state_format.specs.declared.parts.Entry.{Entry as Part}
use Rattle.state_format.specs.declared.parts.Parts.{Parts}
use Rattle.state_parts.specs.World.{variable_of, variables_of, with_variables, things_of, entry_of, area_from, world_of}
use Rattle.play_save.specs.Rules.{HasAgenda, HasTurns}
use Rattle.play_save.specs.Breaking.{IsReadFrom}
use Rattle.play_save.proofs.Lists.{all_at}
use Rattle.play_save.proofs.Turning.{none_placed}

-- ---- variables in the place of others

with_none : (os : List AreaObject) → with_variables os [] ≡ os
with_none [] = refl
with_none (o ∷ os) = refl

given_at : (os : List AreaObject) (ps : List Object) (i : ℕ) (p : Object) (vs : List Variable) → vs ≡ variables_of p → i < length ps → length ps ≡ length os → p ≡ get_or ps i p
    → variables_changed_at i (λ _. vs) (with_variables os (take i ps)) ≡ with_variables os (take (suc i) ps)
given_at [] [] i p vs is h same at = absurd (omega arith)
given_at [] (q ∷ ps) i p vs is h same at = absurd (omega arith)
given_at (o ∷ os) [] i p vs is h same at = absurd (omega arith)
given_at (o ∷ os) (q ∷ ps) zero p vs is h same at =
    ap (λ (v : List Variable). record o { vars = v } ∷ os) (is ∙ ap variables_of at) ∙ ap (λ (l : List AreaObject). record o { vars = variables_of q } ∷ l) (sym (with_none os))
given_at (o ∷ os) (q ∷ ps) (suc i) p vs is h same at =
    ap (λ (l : List AreaObject). record o { vars = variables_of q } ∷ l) (given_at os ps i p vs is (omega arith) (omega arith) at)

pub given_length : (os : List AreaObject) (ps : List Object) → length (with_variables os ps) ≡ length os
given_length [] ps = refl
given_length (o ∷ os) [] = refl
given_length (o ∷ os) (p ∷ ps) = ap suc (given_length os ps)

-- ---- the world

length_map : {A B : Type 0} (f : A → B) (xs : List A) → length (map f xs) ≡ length xs
length_map f [] = refl
length_map f (x ∷ xs) = ap suc (length_map f xs)

all_mapped : {A B : Type 0} (f : A → B) (P : B → Type 0) (xs : List A) → AllByRecursion (λ x. P (f x)) xs → AllByRecursion P (map f xs)
all_mapped f P [] all = tt
all_mapped f P (x ∷ xs) all = (all.0, all_mapped f P xs all.1)

-- what is read of an object's queue is what its part says
queue_is : (objects : List Object) (i : ℕ) (o : Object) → slice_get objects i ≡ Some o → slice_get (map things_of objects) i ≡ Some (things_of o)
queue_is [] i o at = absurd cc
queue_is (x ∷ objects) zero o at = ap (option_map things_of) at
queue_is (x ∷ objects) (suc i) o at = queue_is objects i o at

queue_past : (objects : List Object) (i : ℕ) → slice_get objects i ≡ None → slice_get (map things_of objects) i ≡ None
queue_past [] i at = refl
queue_past (x ∷ objects) zero at = absurd cc
queue_past (x ∷ objects) (suc i) at = queue_past objects i at

past_end : (objects : List Object) (i : ℕ) → slice_get objects i ≡ None → length objects ≤ i
past_end [] i at = omega arith
past_end (x ∷ objects) zero at = absurd cc
past_end (x ∷ objects) (suc i) at = let rest = past_end objects i at in omega arith

turns_kept : (s : Parts) (w : World Saved) → w.things ≡ map things_of s.objects → HasAgenda s → HasTurns s → (o : ℕ)
    → turn_count o (map entry_of s.agenda) ≤ turns_allowed (queue_of o w).busy
turns_kept s w things agenda turns zero = subst (λ n. n ≤ turns_allowed (queue_of 0 w).busy) (sym (none_placed 0 (length s.objects) s.agenda agenda.placed (inl refl))) (omega arith)
turns_kept s w things agenda turns (suc i) = by_object (slice_get s.objects i) refl
  where
    by_object : (found : Option Object) → slice_get s.objects i ≡ found → turn_count (suc i) (map entry_of s.agenda) ≤ turns_allowed (queue_of (suc i) w).busy
    by_object (Some o) at =
        let here : queue_of (suc i) w ≡ (things_of o).queue = ap queue_in (ap (λ ts. slice_get ts i) things ∙ queue_is s.objects i o at) in
        let is = (turns i o at).own in
        subst (λ q. turn_count (suc i) (map entry_of s.agenda) ≤ turns_allowed q.busy) (sym here) (omega (arith, is))
    by_object None at =
        let past = past_end s.objects i at in
        subst (λ n. n ≤ turns_allowed (queue_of (suc i) w).busy) (sym (none_placed (suc i) (length s.objects) s.agenda agenda.placed (inr (omega arith)))) (omega arith)

-- the world of a state over an area with as many objects is one
pub world_kept : (s : Parts) (w : World Saved) → w.things ≡ map things_of s.objects → w.agenda ≡ record { entries = map entry_of s.agenda; next = s.next } → w.clock ≡ s.clock
    → length w.area.objects ≡ length s.objects → HasAgenda s → HasTurns s → IsWorld w
world_kept s w things waiting clock count agenda turns = record {
  counted = ap length things ∙ length_map things_of s.objects ∙ sym count;
  agenda = subst IsAgenda (sym waiting) agenda.agenda;
  placed = subst (λ (l : List (Entry Saved)). AllByRecursion (λ (e : Entry Saved). IsPlaced (length w.area.objects) e.kind) l) (sym (ap (λ (a : Waiting Saved). a.entries) waiting))
      (subst (λ n. AllByRecursion (λ (e : Entry Saved). IsPlaced n e.kind) (map entry_of s.agenda)) (sym count)
      (all_mapped entry_of (λ (e : Entry Saved). IsPlaced (length s.objects) e.kind) s.agenda agenda.placed));
  due = subst (λ (l : List (Entry Saved)). AllByRecursion (λ (e : Entry Saved). w.clock ≤ e.due) l) (sym (ap (λ (a : Waiting Saved). a.entries) waiting))
      (subst (λ n. AllByRecursion (λ (e : Entry Saved). n ≤ e.due) (map entry_of s.agenda)) (sym clock)
      (all_mapped entry_of (λ (e : Entry Saved). s.clock ≤ e.due) s.agenda agenda.due));
  turns = λ o. subst (λ (l : List (Entry Saved)). turn_count o l ≤ turns_allowed (queue_of o w).busy) (sym (ap (λ (a : Waiting Saved). a.entries) waiting)) (turns_kept s w things agenda turns o);
}

-- the area with one object's variables more
pub given_more : (first before after : PlainArea) (ps : List Object) (i o : ℕ) (p : Object) (vs : List Variable) → length ps ≡ length first.objects
    → before ≡ record first { objects = with_variables first.objects (take i ps) } → after ≡ changed before o (λ _. vs) → o ≡ i + 1 → vs ≡ variables_of p
    → i < length ps → p ≡ get_or ps i p → after ≡ record first { objects = with_variables first.objects (take (i + 1) ps) }
given_more first before after ps i o p vs same was now number is h at =
    now ∙ ap (λ (a : PlainArea). changed a o (λ _. vs)) was
    ∙ ap (λ (k : ℕ). record first { objects = variables_changed_at k (λ _. vs) (with_variables first.objects (take i ps)) }) (omega arith)
    ∙ ap (λ (l : List AreaObject). record first { objects = l }) (given_at first.objects ps i p vs is h same at ∙ ap (λ (k : ℕ). with_variables first.objects (take k ps)) (sym (add-one i)))

-- ---- the loop over the objects

pub given_none : (area : PlainArea) → area ≡ record area { objects = with_variables area.objects [] }
given_none area = ap (λ (l : List AreaObject). record area { objects = l }) (sym (with_none area.objects))

pub given_within : (first area : PlainArea) (ps : List Object) (i : ℕ) → area ≡ record first { objects = with_variables first.objects (take i ps) } → length ps ≡ length first.objects → i < length ps
    → i + 1 ≤ length area.objects
given_within first area ps i is counted h =
    let count = ap (λ (a : PlainArea). length a.objects) is ∙ given_length first.objects (take i ps) in omega (arith, count, counted, h)

pub given_whole : (first area : PlainArea) (ps : List Object) (i : ℕ) → area ≡ record first { objects = with_variables first.objects (take i ps) } → length ps ≤ i
    → area ≡ record first { objects = with_variables first.objects ps }
given_whole first area ps i is h = is ∙ ap (λ (l : List Object). record first { objects = with_variables first.objects l }) (take_all i ps h)

-- what is asked of an object's variables, and what is made of them
pub lent_distinct : (ps : List Object) (i : ℕ) (p : Object) (lent : List VariablePart) → AllByRecursion (λ (o : Object). IsDistinct same_variable (variables_of o)) ps → i < length ps →
    p ≡ get_or ps i p
    → lent ≡ p.variables → IsDistinct same_variable (map variable_of lent)
lent_distinct ps i p lent all h at same =
    subst (λ (l : List VariablePart). IsDistinct same_variable (map variable_of l)) (sym same) (all_at (λ (o : Object). IsDistinct same_variable (variables_of o)) ps i p all h at)

-- ---- the world of all these

abbrev waiting_of : ℕ → List Part → Waiting Saved
waiting_of next parts = record { entries = map entry_of parts; next = next }

pub world_ready : (s : Parts) (area given : PlainArea) (w : World Saved) (objects lent : List Object) (entries : List Part) → w.area ≡ given → w.things ≡ map things_of objects
    → objects ≡ s.objects → w.agenda ≡ waiting_of s.next entries → entries ≡ s.agenda → w.clock ≡ s.clock → given ≡ record area { objects = with_variables area.objects lent }
    → length s.objects ≡ length area.objects → HasAgenda s → HasTurns s → IsWorld w
world_ready s area given w objects lent entries here things os waiting es clock made counted agenda turns =
    world_kept s w (things ∙ ap (λ (l : List Object). map things_of l) os) (waiting ∙ ap (waiting_of s.next) es) clock
    (ap (λ (a : PlainArea). length a.objects) here ∙ ap (λ (a : PlainArea). length a.objects) made ∙ given_length area.objects lent ∙ sym counted) agenda turns

abbrev made_world : Parts → PlainArea → List (Things Saved) → Waiting Saved → List ℕ → World Saved
made_world s area things waiting random = record {
  clock = s.clock;
  area = area;
  things = things;
  agenda = waiting;
  trace = [];
  random = random;
  user = pos 0;
  version = s.version;
}

area_made : (s : Parts) (area given : PlainArea) (lent : List Object) → IsReadFrom s.area (length s.objects) area → given ≡ record area { objects = with_variables area.objects lent }
    → lent ≡ s.objects → given ≡ area_from area.tree s
area_made s area given lent read made same =
    let objects : area.objects ≡ objects_of area.tree.top = ap (λ (a : PlainArea). a.objects) read.area ∙ ap (λ (a : PlainArea). objects_of a.tree.top) (sym read.area) in
    made ∙ ap (λ (l : List Object). record area { objects = with_variables area.objects l }) same
    ∙ ap (λ (l : List AreaObject). record area { objects = with_variables l s.objects }) objects

pub world_told : (s : Parts) (area given : PlainArea) (things : List (Things Saved)) (waiting : Waiting Saved) (random : List ℕ) (objects lent : List Object) (entries : List Part) (numbers : List ℕ)
    → IsReadFrom s.area (length s.objects) area → things ≡ map things_of objects → objects ≡ s.objects → waiting ≡ waiting_of s.next entries → entries ≡ s.agenda → random ≡ numbers
    → numbers ≡ s.random → given ≡ record area { objects = with_variables area.objects lent } → lent ≡ s.objects → made_world s given things waiting random ≡ world_of area.tree s
world_told s area given things waiting random objects lent entries numbers read ts os ws es rs ns made same =
    ap (λ (a : PlainArea). made_world s a things waiting random) (area_made s area given lent read made same)
    ∙ ap (λ (l : List (Things Saved)). made_world s (area_from area.tree s) l waiting random) (ts ∙ ap (λ (l : List Object). map things_of l) os)
    ∙ ap (λ (a : Waiting Saved). made_world s (area_from area.tree s) (map things_of s.objects) a random) (ws ∙ ap (waiting_of s.next) es)
    ∙ ap (λ (l : List ℕ). made_world s (area_from area.tree s) (map things_of s.objects) (waiting_of s.next s.agenda) l) (rs ∙ ns)
