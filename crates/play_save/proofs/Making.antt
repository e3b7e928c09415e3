-- The parts of a world that has room in a state. They tell it and have short texts; and each can be
-- written where it is no larger than a file may be.
use Rattle.std.proofs.Common.{◌≡◌, ◌<◌, ◌≤◌, ℕ, List, [], ◌∷◌, length, map, ap, ap₂, refl, arith}
use Rattle.std.specs.Prelude.{Bool, true, false, ◌&&◌, IsTrue}
use Rattle.std.specs.List.{AllByRecursion, list_all}
use Rattle.std.proofs.lemmas.Bool.Decides.{nat_tests}
use Rattle.nwq_value.specs.Limits.{text_limit}
use Rattle.nwq_value.specs.declared.value.Value.TheVariants as value
use Rattle.saved_state.specs.declared.cell.Cell.{Cell}
use Rattle.saved_state.specs.declared.cell.Cell.TheVariants.{Value as Holds, Base}
use Rattle.saved_state.specs.declared.saved.Saved.{Saved}
use Rattle.local_variables.specs.Variables.{Variable, IntVar, TextVar}
use Rattle.area_rules.specs.Objects.{AreaObject}
use Rattle.action_queue.specs.declared.queue.Item.{Item}
use Rattle.action_queue.specs.declared.queue.Item.TheVariants.{Do, Wait, Speak}
use Rattle.delay_agenda.specs.declared.entry.Entry.{Entry}
use Rattle.delay_agenda.specs.Order.{AreBelow}
use Rattle.delay_agenda.specs.declared.entry.Kind.{Kind}
use Rattle.delay_agenda.specs.declared.entry.Kind.TheVariants.{Event, Stored, Turn, Unapply}
use Rattle.world_rules.specs.declared.data.Stood.{Stood}
use Rattle.world_rules.specs.declared.data.Things.{Things}
use Rattle.world_rules.specs.Kept.{IsPlaced}
use Rattle.state_format.specs.declared.parts.Object.{Object}
use Rattle.state_format.specs.declared.parts.Entry.{Entry as EntryPart}
use Rattle.state_format.specs.Parts.{IsBlob, IsCaptured, IsCell, IsEntry, IsItem, IsKind, IsObject, IsStanding, IsVariable}
use Rattle.state_format.specs.Fields.{number, tag, effect_fields, cell_fields, captured_fields, variable_fields, standing_fields, item_fields, object_fields, kind_fields, entry_fields}
use Rattle.play_room.specs.Room.{IsText, CellHasRoom, SavedHasRoom, VariableHasRoom, StoodHasRoom, ItemHasRoom, ThingsHaveRoom, ObjectHasRoom, KindHasRoom, EntryHasRoom}
use Rattle.state_parts.specs.Told.{effect_part, cell_part, saved_part, variable_part, stood_part, item_part, object_part, object_parts, kind_part, entry_part}
use Rattle.state_parts.specs.World.{cell_of, saved_of, variable_of, stood_of, item_of, kind_of, entry_of}
use Rattle.state_parts.specs.ShortTexts.{is_short, is_short_cell, has_short_cells, is_short_item, has_short_items, is_short_kind, is_short_entry}
use Rattle.state_parts.specs.Keeping.{IsPartOf, ArePartsOf, any_text}
use Rattle.play_save.specs.Rules.{count_limit}
use Rattle.play_save.specs.Keeping.{TellObjects}
use Rattle.play_save.proofs.Sizes.{IfSmall, small_rest, effect_form, captured_form, number_form, text_form, standing_form, object_form}

-- ---- lists

both_true : (a b : Bool) → IsTrue a → IsTrue b → IsTrue (a && b)
both_true true b x y = y
both_true false b x y = absurd cc

pub made_all : {A B : Type 0} (tells : B → A) (Is : B → Type 0) (is_short : B → Bool) (Has : A → Type 0) (part : A → B)
    → ((x : A) → Has x → IsPartOf tells Is is_short x (part x)) → (xs : List A) → AllByRecursion Has xs → ArePartsOf tells Is is_short xs (map part xs)
made_all tells Is is_short Has part made [] all = record { same = refl; form = tt; short = refl }
made_all tells Is is_short Has part made (x ∷ xs) all =
    let p = made x all.0 in
    let rest = made_all tells Is is_short Has part made xs all.1 in
    record {
      same = ap₂ (λ y (l : List _). y ∷ l) p.same rest.same;
      form = (p.form, rest.form);
      short = both_true (is_short (part x)) (list_all is_short (map part xs)) p.short rest.short;
    }

-- ---- values

short_text : (text : List ℕ) → length text ≤ text_limit → IsTrue (is_short text)
short_text text few = grind (arith, nat_tests)

text_blob : (text : List ℕ) → IsText text → IsBlob text
text_blob text is = (omega (arith, is.0), is.1)

cell_made : (c : Cell) → CellHasRoom c → IsPartOf cell_of (IfSmall cell_fields IsCell) is_short_cell c (cell_part c)
cell_made (Holds (value.Int n)) room = record { same = refl; form = λ small. room; short = refl }
cell_made (Holds (value.Text text)) room = record { same = refl; form = λ small. text_blob text room; short = short_text text room.0 }
cell_made (Holds (value.Object o)) room = record { same = refl; form = λ small. room; short = refl }
cell_made (Holds (value.Effect e)) room = record {
  same = refl;
  form = λ small. effect_form (effect_part e) room.0 room.1 (small_rest (tag 0x10) (effect_fields (effect_part e)) small);
  short = refl;
}
cell_made (Holds (value.Event n)) room = record { same = refl; form = λ small. room; short = refl }
cell_made (Base bp) room = absurd room

saved_made : (s : Saved) → SavedHasRoom s → IsPartOf saved_of (IfSmall captured_fields IsCaptured) has_short_cells s (saved_part s)
saved_made s room =
    let globals = made_all cell_of (IfSmall cell_fields IsCell) is_short_cell CellHasRoom cell_part cell_made s.globals room.globals in
    let locals = made_all cell_of (IfSmall cell_fields IsCell) is_short_cell CellHasRoom cell_part cell_made s.locals room.locals in
    record {
      same = ap₂ (λ (g l : List Cell). record { script = s.script; place = s.place; globals = g; locals = l }) globals.same locals.same;
      form = λ small. captured_form (saved_part s) room.script room.place globals.form locals.form small;
      short = both_true (list_all is_short_cell (map cell_part s.globals)) (list_all is_short_cell (map cell_part s.locals)) globals.short locals.short;
    }

-- ---- objects

variable_made : (v : Variable) → VariableHasRoom v → IsPartOf variable_of (IfSmall variable_fields IsVariable) any_text v (variable_part v)
variable_made (IntVar name n) room = record { same = refl; form = number_form name n room.0 room.1; short = refl }
variable_made (TextVar name text) room = record { same = refl; form = text_form name text room.0 room.1; short = refl }

stood_made : (s : Stood) → StoodHasRoom s → IsPartOf stood_of (IfSmall standing_fields IsStanding) any_text s (stood_part s)
stood_made s room = record { same = refl; form = standing_form (stood_part s) room.0 room.1.0 room.1.1; short = refl }

item_made : (i : Item Saved) → ItemHasRoom i → IsPartOf item_of (IfSmall item_fields IsItem) is_short_item i (item_part i)
item_made (Do s) room =
    let made = saved_made s room in
    record { same = ap (λ (x : Saved). Do x) made.same; form = λ small. made.form (small_rest (tag 0) (captured_fields (saved_part s)) small); short = made.short }
item_made (Wait ms) room = record { same = refl; form = λ small. room; short = refl }
item_made (Speak text) room = record { same = refl; form = λ small. text_blob text room; short = short_text text room.0 }

-- parts tell objects, and can be written where they are small
pub record AreMade (os : List AreaObject) (ts : List (Things Saved)) (parts : List Object) : Type 0 where
  pub told : TellObjects os ts parts
  pub form : AllByRecursion (IfSmall object_fields IsObject) parts

pub objects_made : (os : List AreaObject) (ts : List (Things Saved)) → length ts ≡ length os → AllByRecursion ObjectHasRoom os → AllByRecursion ThingsHaveRoom ts
    → AreMade os ts (object_parts os ts)
objects_made [] [] same variables things = record { told = record { kept = refl; variables = refl; short = refl }; form = tt }
objects_made [] (t ∷ ts) same variables things = absurd (omega (arith, same))
objects_made (o ∷ os) [] same variables things = absurd (omega (arith, same))
objects_made (o ∷ os) (t ∷ ts) same variables things =
    let rest = objects_made os ts (omega (arith, same)) variables.1 things.1 in
    let vars = made_all variable_of (IfSmall variable_fields IsVariable) any_text VariableHasRoom variable_part variable_made o.vars variables.0 in
    let effects = made_all stood_of (IfSmall standing_fields IsStanding) any_text StoodHasRoom stood_part stood_made t.effects things.0.effects in
    let items = made_all item_of (IfSmall item_fields IsItem) is_short_item ItemHasRoom item_part item_made t.queue.actions things.0.items in
    record {
      told = record {
        kept = ap₂ (λ (x : Things Saved) (l : List (Things Saved)). x ∷ l)
            (ap₂ (λ (a : List (Item Saved)) (e : List Stood). record { queue = record { actions = a; busy = t.queue.busy }; effects = e }) items.same effects.same) rest.told.kept;
        variables = ap₂ (λ (x : List Variable) (l : List (List Variable)). x ∷ l) vars.same rest.told.variables;
        short = both_true (list_all is_short_item (map item_part t.queue.actions)) (list_all has_short_items (object_parts os ts)) items.short rest.told.short;
      };
      form = (object_form (object_part o t) vars.form effects.form items.form, rest.form);
    }

-- ---- the agenda

-- an entry that waits between two of a play has numbers that fit
pub record IsReady (next objects : ℕ) (e : Entry Saved) : Type 0 where
  pub number : e.number < next
  pub due : e.due < count_limit
  pub placed : IsPlaced objects e.kind
  pub room : EntryHasRoom e

pub all_ready : (next objects : ℕ) (es : List (Entry Saved)) → AreBelow next es
    → AllByRecursion (λ (e : Entry Saved). e.due < count_limit) es → AllByRecursion (λ (e : Entry Saved). IsPlaced objects e.kind) es → AllByRecursion EntryHasRoom es
    → AllByRecursion (IsReady next objects) es
all_ready next objects [] number due placed room = tt
all_ready next objects (e ∷ es) number due placed room = (
  record { number = number.0; due = due.0; placed = placed.0; room = room.0 },
  all_ready next objects es number.1 due.1 placed.1 room.1,
)

-- an entry can be written where it is small, and where each object has a number that fits
abbrev IfFew : {B : Type 0} → ℕ → (B → Type 0) → B → Type 0
IfFew objects Is p = objects < 4294967296 → Is p

kind_made : (objects : ℕ) (k : Kind Saved) → IsPlaced objects k → KindHasRoom k → IsPartOf kind_of (IfFew objects (IfSmall kind_fields IsKind)) is_short_kind k (kind_part k)
kind_made objects (Event o script user) placed room = record {
  same = refl;
  form = λ few small. (omega (arith, placed, few), (text_blob script room.0, room.1));
  short = short_text script room.0.0;
}
kind_made objects (Stored o s) placed room =
    let made = saved_made s room in
    record {
      same = ap (λ (x : Saved). Stored o x) made.same;
      form = λ few small.
          (omega (arith, placed, few), made.form (small_rest (number 4 o) (captured_fields (saved_part s)) (small_rest (tag 1) (number 4 o ∷ captured_fields (saved_part s)) small)));
      short = made.short;
    }
kind_made objects (Turn o) placed room = record { same = refl; form = λ few small. omega (arith, placed.1, few); short = refl }
kind_made objects (Unapply o) placed room = record { same = refl; form = λ few small. omega (arith, placed.1, few); short = refl }

entry_made : (next objects : ℕ) → next < count_limit → (e : Entry Saved) → IsReady next objects e
    → IsPartOf entry_of (IfFew objects (IfSmall entry_fields IsEntry)) is_short_entry e (entry_part e)
entry_made next objects most e ready =
    let made = kind_made objects e.kind ready.placed ready.room in
    record {
      same = ap (λ (k : Kind Saved). record { due = e.due; number = e.number; kind = k }) made.same;
      form = λ few small. record {
        due = omega (arith, ready.due);
        number = omega (arith, ready.number, most);
        kind = made.form few
            (small_rest (number 8 e.number) (kind_fields (kind_part e.kind)) (small_rest (number 8 e.due) (number 8 e.number ∷ kind_fields (kind_part e.kind)) small));
      };
      short = made.short;
    }

-- ---- entries

are_few : {B : Type 0} (objects : ℕ) (Is : B → Type 0) (ps : List B) → objects < 4294967296 → AllByRecursion (IfFew objects Is) ps → AllByRecursion Is ps
are_few objects Is [] few all = tt
are_few objects Is (p ∷ ps) few all = (all.0 few, are_few objects Is ps few all.1)

-- parts tell entries, have short texts, and can be written where they are small
pub record AreEntries (objects : ℕ) (es : List (Entry Saved)) (ps : List EntryPart) : Type 0 where
  pub same : map entry_of ps ≡ es
  pub short : IsTrue (list_all is_short_entry ps)
  pub form : objects < 4294967296 → AllByRecursion (IfSmall entry_fields IsEntry) ps

pub entries_made : (next objects : ℕ) → next < count_limit → (es : List (Entry Saved)) → AllByRecursion (IsReady next objects) es
    → AreEntries objects es (map entry_part es)
entries_made next objects most es ready =
    let made = made_all entry_of (IfFew objects (IfSmall entry_fields IsEntry)) is_short_entry (IsReady next objects) entry_part (entry_made next objects most) es ready in
    record { same = made.same; short = made.short; form = λ few. are_few objects (IfSmall entry_fields IsEntry) (map entry_part es) few made.form }
