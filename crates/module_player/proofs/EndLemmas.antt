-- The text at a play's end, turn by turn of the loops that put it.
use Rattle.std.proofs.Common.{arith, ◌≡◌, ◌<◌, ◌≤◌, ◌+◌, ℕ, suc, List, [], ◌∷◌, ◌++◌, drop, length, None, Some, ⊎_elim, sym, subst, ap, ◌∙◌, refl, append_assoc, length-append, drop-cons, add-one}
use Rattle.std.specs.Prelude.{slice_get}
use Rattle.std.specs.List.{flat_map}
use Rattle.std.proofs.lemmas.List.{drop_all}
use Rattle.std.proofs.lemmas.Option.{slice_get_within, get_or_from_slice_get, slice_get_cases}
use Rattle.action_queue.specs.declared.queue.Item.{Item}
use Rattle.delay_agenda.specs.declared.entry.Entry.{Entry}
use Rattle.saved_state.specs.declared.saved.Saved.{Saved}
use Rattle.world_rules.specs.declared.data.Stood.{Stood}
use Rattle.world_rules.specs.declared.data.Things.{Things}
use Rattle.world_rules.specs.Kept.{IsWorld}
use Rattle.world_rules.specs.World.{World, count, effects_in, effects_of, queue_in, queue_of}
use Rattle.world_rules.specs.EndText.{by_object, due_line, end_line, end_text, end_word, item_line, queue_lines, standing_lines, world_text}
use Rattle.machine_rules.specs.Machine.{Script}
use Rattle.world_rules.specs.Plays.{PlayEnd, Played}
use Rattle.module_player.specs.declared.played.Played.{Played as Answer}
use Rattle.module_player.specs.Answers.{EndsAs}
use Rattle.module_player.specs.CodePlays.{code_end_text, script_name}
use Rattle.module_player.specs.EndTexts.{IsEnding, actions_text, closing_line, effects_text, standing_text}

-- ---- what is left of a list

drop_some : {A : Type 0} (xs : List A) (i : ℕ) (x : A) → slice_get xs i ≡ Some x → drop i xs ≡ x ∷ drop (suc i) xs
drop_some xs i x is = drop-cons xs i x (slice_get_within xs i x is) ∙ ap (λ y. y ∷ drop (suc i) xs) (get_or_from_slice_get xs i x x is)

drop_none : {A : Type 0} (xs : List A) (i : ℕ) → slice_get xs i ≡ None → drop i xs ≡ []
drop_none xs i none = ⊎_elim (λ h. absurd (no_some (sym h.2 ∙ none))) (λ h. drop_all i xs h.0) (slice_get_cases xs i).1
  where
    no_some : {A : Type 0} {x : A} → Some x ≡ None → ⊥
    no_some e = absurd cc

-- ---- effects of an object

nothing_more : (xs : List ℕ) → xs ++ [] ≡ xs
nothing_more [] = refl
nothing_more (x ∷ xs) = ap (λ ys. x ∷ ys) (nothing_more xs)

pub effects_go : (o : ℕ) (es left : List Stood) (s : Stood) (out next all : List ℕ) → Some s ≡ slice_get es 0
    → left ≡ drop 1 es → out ++ effects_text o es ≡ all → next ≡ out ++ standing_text o s.effect
    → next ++ effects_text o left ≡ all
effects_go o es left s out next all is rest inv put =
    ap (λ x. next ++ effects_text o x) rest
    ∙ ap (λ x. x ++ effects_text o (drop 1 es)) put
    ∙ append_assoc out (standing_text o s.effect) (effects_text o (drop 1 es))
    ∙ ap (λ d. out ++ effects_text o d) (sym (drop_some es 0 s (sym is)))
    ∙ inv

pub effects_end : (o : ℕ) (es : List Stood) (out all : List ℕ) → None ≡ slice_get es 0 → out ++ effects_text o es ≡ all → out ≡ all
effects_end o es out all is inv = sym (nothing_more out) ∙ ap (λ d. out ++ effects_text o d) (sym (drop_none es 0 (sym is))) ∙ inv

-- ---- an object's queue

module _ (name_of : Saved → List ℕ) (o : ℕ) where
  pub items_begin : (i : ℕ) (items : List (Item Saved)) (out : List ℕ) → i ≡ 0 → out ++ actions_text name_of o (drop i items) ≡ out ++ actions_text name_of o items
  items_begin i items out zero_is = ap (λ n. out ++ actions_text name_of o (drop n items)) zero_is

  pub items_go : (i j : ℕ) (items : List (Item Saved)) (out next all : List ℕ) (x : Item Saved) → j ≡ i + 1 → out ++ actions_text name_of o (drop i items) ≡ all
      → Some x ≡ slice_get items i → next ≡ out ++ item_line name_of o x → next ++ actions_text name_of o (drop j items) ≡ all
  items_go i j items out next all x one inv is put =
      ap (λ n. next ++ actions_text name_of o (drop n items)) (one ∙ add-one i)
      ∙ ap (λ y. y ++ actions_text name_of o (drop (suc i) items)) put
      ∙ append_assoc out (item_line name_of o x) (actions_text name_of o (drop (suc i) items))
      ∙ ap (λ d. out ++ actions_text name_of o d) (sym (drop_some items i x (sym is)))
      ∙ inv

  pub items_end : (i : ℕ) (items : List (Item Saved)) (out all : List ℕ) → out ++ actions_text name_of o (drop i items) ≡ all → None ≡ slice_get items i → out ≡ all
  items_end i items out all inv is = sym (nothing_more out) ∙ ap (λ d. out ++ actions_text name_of o d) (sym (drop_none items i (sym is))) ∙ inv

  item_some : (x : Item Saved) → 2 ≤ length (item_line name_of o x)
  item_some x = simp length-append (omega arith)

  pub items_long : (i j : ℕ) (out next : List ℕ) (x : Item Saved) → j ≡ i + 1 → i + i ≤ length out → next ≡ out ++ item_line name_of o x → j + j ≤ length next
  items_long i j out next x one long put = omega (arith, one, long, ap length put, length-append out (item_line name_of o x), item_some x)

-- ---- object after object

-- the lines of each object are those of its things
record Reads (lines : ℕ → Things Saved → List ℕ) (things : List (Things Saved)) (o : ℕ) (text : List ℕ) : Type 0 where
  by : (t : Things Saved) → slice_get things o ≡ Some t → text ≡ lines (suc o) t

objects_go : (lines : ℕ → Things Saved → List ℕ) (things : List (Things Saved)) (i j : ℕ) (out next all text : List ℕ) → j ≡ i + 1 → i < length things → Reads lines things i text
    → out ++ by_object lines (suc i) (drop i things) ≡ all → next ≡ out ++ text → next ++ by_object lines (suc j) (drop j things) ≡ all
objects_go lines things i j out next all text one inside reads inv put = ⊎_elim
    (λ h. let t = h.0 in let is = h.2 in
    ap (λ n. next ++ by_object lines (suc n) (drop n things)) (one ∙ add-one i)
    ∙ ap (λ y. y ++ by_object lines (suc (suc i)) (drop (suc i) things)) (put ∙ ap (λ y. out ++ y) (reads.by t is))
    ∙ append_assoc out (lines (suc i) t) (by_object lines (suc (suc i)) (drop (suc i) things))
    ∙ ap (λ d. out ++ by_object lines (suc i) d) (sym (drop_some things i t is))
    ∙ inv)
    (λ h. absurd (omega (arith, h.0, inside)))
    (slice_get_cases things i).1

objects_end : (lines : ℕ → Things Saved → List ℕ) (things : List (Things Saved)) (i : ℕ) (out all : List ℕ) → i ≡ length things → out ++ by_object lines (suc i) (drop i things) ≡ all → out ≡ all
objects_end lines things i out all same inv = sym (nothing_more out) ∙ ap (λ d. out ++ by_object lines (suc i) d) (sym (drop_all i things (omega (arith, same)))) ∙ inv

effects_read : (w : World Saved) (i o : ℕ) → o ≡ i + 1 → Reads standing_lines w.things i (effects_text o (effects_of o w))
effects_read w i o one = record { by = λ t is. ap (λ n. effects_text n (effects_of n w)) (one ∙ add-one i) ∙ ap (λ x. effects_text (suc i) (effects_in x)) is }

queue_read : (name_of : Saved → List ℕ) (w : World Saved) (i o : ℕ) → o ≡ i + 1 → Reads (queue_lines name_of) w.things i (actions_text name_of o (queue_of o w).actions)
queue_read name_of w i o one = record { by = λ t is. ap (λ n. actions_text name_of n (queue_of n w).actions) (one ∙ add-one i) ∙ ap (λ x. actions_text name_of (suc i) (queue_in x).actions) is }

pub all_effects_go : (w : World Saved) (i j o : ℕ) (out next all : List ℕ) → IsWorld w → j ≡ i + 1 → o ≡ i + 1 → i < count w
    → out ++ by_object standing_lines (suc i) (drop i w.things) ≡ all → next ≡ out ++ effects_text o (effects_of o w) → next ++ by_object standing_lines (suc j) (drop j w.things) ≡ all
all_effects_go w i j o out next all world one object inside inv put =
    objects_go standing_lines w.things i j out next all _ one (subst (λ n. i < n) (sym world.counted) inside) (effects_read w i o object) inv put

pub all_effects_end : (w : World Saved) (i : ℕ) (out all : List ℕ) → IsWorld w → i ≡ count w → out ++ by_object standing_lines (suc i) (drop i w.things) ≡ all → out ≡ all
all_effects_end w i out all world same inv = objects_end standing_lines w.things i out all (same ∙ sym world.counted) inv

pub all_queues_go : (name_of : Saved → List ℕ) (w : World Saved) (i j o : ℕ) (out next all : List ℕ) → IsWorld w → j ≡ i + 1 → o ≡ i + 1 → i < count w
    → out ++ by_object (queue_lines name_of) (suc i) (drop i w.things) ≡ all → next ≡ out ++ actions_text name_of o (queue_of o w).actions
    → next ++ by_object (queue_lines name_of) (suc j) (drop j w.things) ≡ all
all_queues_go name_of w i j o out next all world one object inside inv put =
    objects_go (queue_lines name_of) w.things i j out next all _ one (subst (λ n. i < n) (sym world.counted) inside) (queue_read name_of w i o object) inv put

pub all_queues_end : (name_of : Saved → List ℕ) (w : World Saved) (i : ℕ) (out all : List ℕ) → IsWorld w → i ≡ count w
    → out ++ by_object (queue_lines name_of) (suc i) (drop i w.things) ≡ all → out ≡ all
all_queues_end name_of w i out all world same inv = objects_end (queue_lines name_of) w.things i out all (same ∙ sym world.counted) inv

-- ---- entries that are taken off

module _ (name_of : Saved → List ℕ) where
  abbrev Due : List (Entry Saved) → List ℕ
  Due es = flat_map (due_line name_of) es

  pub agenda_go : (es left : List (Entry Saved)) (e : Entry Saved) (out next all : List ℕ) → Some e ≡ slice_get es 0 → left ≡ drop 1 es → out ++ flat_map (due_line name_of) es ≡ all
      → next ≡ out ++ due_line name_of e → next ++ flat_map (due_line name_of) left ≡ all
  agenda_go es left e out next all is rest inv put =
      ap (λ x. next ++ flat_map (due_line name_of) x) rest
      ∙ ap (λ x. x ++ flat_map (due_line name_of) (drop 1 es)) put
      ∙ append_assoc out (due_line name_of e) (flat_map (due_line name_of) (drop 1 es))
      ∙ ap (λ d. out ++ flat_map (due_line name_of) d) (sym (drop_some es 0 e (sym is)))
      ∙ inv

  pub agenda_end : (es : List (Entry Saved)) (out all : List ℕ) → None ≡ slice_get es 0 → out ++ flat_map (due_line name_of) es ≡ all → out ≡ all
  agenda_end es out all is inv = sym (nothing_more out) ∙ ap (λ d. out ++ flat_map (due_line name_of) d) (sym (drop_none es 0 (sym is))) ∙ inv

-- ---- the whole

end_of : (name_of : Saved → List ℕ) (scripts : List Script) (answer : Answer) (p : Played Saved) (w : World Saved) → IsEnding answer p w
    → code_end_text scripts p ≡ (by_object standing_lines 1 w.things ++ by_object (queue_lines (script_name scripts)) 1 w.things ++ flat_map (due_line (script_name scripts)) w.agenda.entries)
    ++ end_line p.ending w.clock answer.entries answer.instructions
unfolding end_text world_text
end_of name_of scripts answer p w h = rw (h.entries, h.instructions, h.world) refl

regroup : (a b c d : List ℕ) → ((([] ++ a) ++ b) ++ c) ++ d ≡ (a ++ b ++ c) ++ d
regroup a b c d = refl

pub text_is : (scripts : List Script) (answer : Answer) (p : Played Saved) (w : World Saved) (effects queues agenda out word : List ℕ) → IsEnding answer p w
    → effects ≡ [] ++ by_object standing_lines 1 w.things → queues ≡ effects ++ by_object (queue_lines (script_name scripts)) 1 w.things
    → agenda ≡ queues ++ flat_map (due_line (script_name scripts)) w.agenda.entries
    → ((ending : PlayEnd) → EndsAs answer.how ending → word ≡ end_word ending) → out ≡ agenda ++ closing_line word w.clock answer.entries answer.instructions
    → out ≡ code_end_text scripts p
text_is scripts answer p w effects queues agenda out word h a b c said d =
    d ∙ ap (λ x. agenda ++ closing_line x w.clock answer.entries answer.instructions) (said p.ending h.ending)
    ∙ ap (λ x. x ++ end_line p.ending w.clock answer.entries answer.instructions)
    (c ∙ ap (λ x. x ++ flat_map (due_line (script_name scripts)) w.agenda.entries) (b ∙ ap (λ x. x ++ by_object (queue_lines (script_name scripts)) 1 w.things) a))
    ∙ regroup (by_object standing_lines 1 w.things) (by_object (queue_lines (script_name scripts)) 1 w.things) (flat_map (due_line (script_name scripts)) w.agenda.entries)
    (end_line p.ending w.clock answer.entries answer.instructions)
    ∙ sym (end_of (script_name scripts) scripts answer p w h)

pub ruleset effect_lemmas = (effects_go, effects_end)

pub ruleset queue_lemmas = (items_begin, items_go, items_end)

pub ruleset object_lemmas = (all_effects_go, all_effects_end, all_queues_go, all_queues_end)

pub ruleset agenda_lemmas = (agenda_go, agenda_end)
