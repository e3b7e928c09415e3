-- Plays that go together have one text at their end.
use Rattle.std.proofs.Common.{◌≡◌, ℕ, zero, suc, List, [], ◌∷◌, ◌++◌, map, slice_get, codes, refl, sym, ap, ap₂, ◌∙◌}
use Rattle.std.specs.List.{flat_map}
use Rattle.std.specs.Option.{option_map}
use Rattle.std.specs.Fmt.{decimal}
use Rattle.action_queue.specs.declared.queue.Item.{Item}
use Rattle.action_queue.specs.declared.queue.Item.TheVariants.{Do, Wait, Speak}
use Rattle.delay_agenda.specs.declared.entry.Entry.{Entry}
use Rattle.delay_agenda.specs.declared.entry.Kind.{Kind}
use Rattle.delay_agenda.specs.declared.entry.Kind.TheVariants.{Event, Stored, Turn, Unapply}
use Rattle.nwq_text.specs.Escape.{escaped}
use Rattle.nwq_text.specs.Values.{object_text}
use Rattle.saved_state.specs.declared.saved.Saved.{Saved}
use Rattle.world_rules.specs.declared.data.Things.{Things}
use Rattle.world_rules.specs.World.{World}
use Rattle.world_rules.specs.Mapped.{map_kind, map_entry, map_item, map_things, map_world}
use Rattle.world_rules.specs.Alike.{Related, left_of, right_of, Alike}
use Rattle.machine_rules.specs.Machine.{Script}
use Rattle.world_rules.specs.Plays.{PlayEnd}
use Rattle.world_rules.specs.EndText.{by_object, standing_lines, item_text, item_line, queue_lines, kind_text, due_line, end_line, world_text, end_text}
use Rattle.module_player.specs.CodePlays.{name_in, script_name}
use Rattle.source_meaning.specs.Evaluation.{Deferred}
use Rattle.source_meaning.specs.Scripts.{Listed, Setting}
use Rattle.source_laws.specs.Ledger.{MachineHost}
use Rattle.source_laws.specs.Carries.{Carries}
use Rattle.source_laws.specs.Executing.{script_of, IsHostOf}
use Rattle.play_meaning.specs.EndTexts.{listed_name, deferred_name, EndTextsAgree}

-- ---- for two ways to name stored actions that name those alike which belong together

module _ {X Y : Type 0} (R : X → Y → Type 0) (f : X → List ℕ) (g : Y → List ℕ) (same : (x : X) (y : Y) → R x y → f x ≡ g y) where
  standing_text : (o : ℕ) (ts : List (Things (Related R))) → by_object standing_lines o (map (map_things left_of) ts) ≡ by_object standing_lines o (map (map_things right_of) ts)
  standing_text o [] = refl
  standing_text o (t ∷ ts) = ap (λ l. standing_lines o t ++ l) (standing_text (suc o) ts)

  one_item : (item : Item (Related R)) → item_text f (map_item left_of item) ≡ item_text g (map_item right_of item)
  one_item (Do p) = ap (λ name. codes "do " ++ escaped name) (same p.left p.right p.related)
  one_item (Wait ms) = refl
  one_item (Speak bytes) = refl

  items_text : (o : ℕ) (items : List (Item (Related R))) → flat_map (item_line f o) (map (map_item left_of) items) ≡ flat_map (item_line g o) (map (map_item right_of) items)
  items_text o [] = refl
  items_text o (item ∷ items) = ap₂ (λ (text rest : List ℕ). (codes "queue " ++ object_text o ++ 32 ∷ text ++ 10 ∷ []) ++ rest) (one_item item) (items_text o items)

  queues_text : (o : ℕ) (ts : List (Things (Related R))) → by_object (queue_lines f) o (map (map_things left_of) ts) ≡ by_object (queue_lines g) o (map (map_things right_of) ts)
  queues_text o [] = refl
  queues_text o (t ∷ ts) = ap₂ (λ (lines rest : List ℕ). lines ++ rest) (items_text o t.queue.actions) (queues_text (suc o) ts)

  one_kind : (k : Kind (Related R)) → kind_text f (map_kind left_of k) ≡ kind_text g (map_kind right_of k)
  one_kind (Event o name user) = refl
  one_kind (Stored o p) = ap (λ name. codes "stored " ++ object_text o ++ 32 ∷ escaped name) (same p.left p.right p.related)
  one_kind (Turn o) = refl
  one_kind (Unapply o) = refl

  entries_text : (es : List (Entry (Related R))) → flat_map (due_line f) (map (map_entry left_of) es) ≡ flat_map (due_line g) (map (map_entry right_of) es)
  entries_text [] = refl
  entries_text (e ∷ es) = ap₂ (λ (text rest : List ℕ). (codes "due " ++ decimal e.due ++ 32 ∷ decimal e.number ++ 32 ∷ text ++ 10 ∷ []) ++ rest) (one_kind e.kind) (entries_text es)

  both_texts : (u : World (Related R)) → world_text f (map_world left_of u) ≡ world_text g (map_world right_of u)
  unfolding world_text
  both_texts u =
      ap₂ (λ (a b : List ℕ). a ++ b) (ap₂ (λ (a b : List ℕ). a ++ b) (standing_text 1 u.things) (queues_text 1 u.things)) (entries_text u.agenda.entries)

  pub worlds_text : (w : World X) (v : World Y) → Alike R w v → world_text f w ≡ world_text g v
  worlds_text w v a = ap (world_text f) (sym a.left) ∙ both_texts a.pairs ∙ ap (world_text g) a.right

-- ---- the names of scripts

listed_get : (ls : List Listed) (i : ℕ) → slice_get (map script_of ls) i ≡ option_map script_of (slice_get ls i)
listed_get [] i = refl
listed_get (l ∷ ls) zero = refl
listed_get (l ∷ ls) (suc i) = listed_get ls i

same_name : (s : Setting) (host : MachineHost) → IsHostOf host s → (c : Saved) (d : Deferred) → Carries s c d → script_name host.scripts c ≡ deferred_name s d
same_name s host of c d h =
    ap₂ (λ (scripts : List Script) (n : ℕ). name_in (slice_get scripts n)) of.scripts h.script
    ∙ ap name_in (listed_get s.scripts d.script ∙ ap (option_map script_of) h.is)
    ∙ sym (ap listed_name h.is)

pub end_texts_agree : EndTextsAgree
unfolding end_text
end_texts_agree s host of code source h =
    let clock : code.last.world.clock ≡ source.last.world.clock = ap (λ u. u.clock) (sym h.world.left) ∙ ap (λ u. u.clock) h.world.right in
    ap₂ (λ (a b : List ℕ). a ++ b)
    (worlds_text (Carries s) (script_name host.scripts) (deferred_name s) (same_name s host of) code.last.world source.last.world h.world)
    (ap (λ (e : PlayEnd). end_line e code.last.world.clock code.last.entries code.last.count) h.ending
    ∙ ap₂ (λ (c n : ℕ). end_line source.ending c n code.last.count) clock h.entries)
