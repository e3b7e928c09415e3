-- There is a state of each play that rests in a world which has room in one.
use Rattle.std.proofs.Common.{inl, inr, ◌≡◌, ◌<◌, ◌≤◌, ℕ, zero, suc, ◌⊎◌, List, [], ◌∷◌, length, map, sym, ap, refl, ◌∙◌, subst, arith}
use Rattle.std.specs.Prelude.{Option, Some, slice_get, IsTrue}
use Rattle.std.specs.List.{AllByRecursion, IsDistinct}
use Rattle.std.specs.Str.{bytes_eq}
use Rattle.std.specs.Option.{option_map}
use Rattle.std.proofs.lemmas.Option.{slice_get-map}
use Rattle.nwq_text.specs.Names.{is_script_name}
use Rattle.nwq_value.specs.Limits.{file_limit}
use Rattle.nwq_value.specs.Engine.{EngineTable}
use Rattle.engine_table.specs.Headers.{OneHeader}
use Rattle.ncs_code.specs.File.{IsCode, file_bytes}
use Rattle.ncs_code.specs.Laws.{SpellingLaws, FileLength}
use Rattle.plan_text.specs.Plans.{Limits}
use Rattle.area_rules.specs.Objects.{objects_of}
use Rattle.action_queue.specs.Queued.{Queued}
use Rattle.delay_agenda.specs.declared.entry.Entry.{Entry}
use Rattle.delay_agenda.specs.Waiting.{turn_count}
use Rattle.saved_state.specs.declared.saved.Saved.{Saved}
use Rattle.machine_rules.specs.Machine.{Script}
use Rattle.stack_rules.specs.Tables.{ShapeTable}
use Rattle.stack_rules.specs.Rules.{MeetsRules, WellStacked}
use Rattle.stack_rules.specs.Fits.{Tables, Fits, FitsOne}
use Rattle.stack_rules.specs.Laws.{AllMeet}
use Rattle.ncs_machine.specs.Stored.{KindFits, EntryFits, ItemFits, ThingsFit}
use Rattle.world_rules.specs.Kept.{turns_allowed}
use Rattle.world_rules.specs.World.{World, queue_of, queue_in}
use Rattle.state_format.specs.declared.parts.Captured.{Captured}
use Rattle.state_format.specs.declared.parts.Item.{Item}
use Rattle.state_format.specs.declared.parts.Item.TheVariants as item
use Rattle.state_format.specs.declared.parts.KindPart.{KindPart}
use Rattle.state_format.specs.declared.parts.KindPart.TheVariants as kind
use Rattle.state_format.specs.declared.parts.Object.{Object}
use Rattle.state_format.specs.declared.parts.Entry.{Entry as Part}
use Rattle.state_format.specs.declared.parts.Script.{Script as ScriptPart}
use Rattle.state_format.specs.declared.parts.Parts.{Parts}
use Rattle.state_format.specs.Parts.{HasForm, IsList, IsNumber, IsObject, IsScript}
use Rattle.state_format.specs.Fields.{parts_bytes}
use Rattle.play_room.specs.Room.{HasRoom}
use Rattle.state_parts.specs.World.{saved_of, item_of, things_of, kind_of, entry_of}
use Rattle.play_save.specs.Rules.{IsHeaderOf, IsSound, IsAccepted, HasArea, KeepsLimits, HasStates, HasTurns, IsCapturedIn, ItemHolds, KindHolds, count_limit}
use Rattle.play_save.specs.States.{resting, MayLimit, MayCount}
use Rattle.play_save.specs.Keeping.{Tells}
use Rattle.play_save.specs.Written.{AreListed, Rests, listed_part, PlaysHaveStates}
use Rattle.play_save.specs.TableLemmas.{chosen, chosen_meet}
use Rattle.play_save.proofs.CapturedLemmas.{one_table, one_file}
use Rattle.state_parts.specs.KeepingLemmas.{all_got}
use Rattle.play_save.proofs.Accepting.{all_back, length_map, map_map, same_count, own_variables, queue_here, no_items, agenda_there}
use Rattle.play_save.proofs.Saving.{world_saved, world_too}
use Rattle.play_save.proofs.FileBytes.{name_blob, file_blob}
use Rattle.play_save.proofs.Sizes.{objects_form, agenda_form}
use Rattle.state_parts.specs.Told.{object_parts, entry_part}
use Rattle.play_save.proofs.Telling.{parts_count}
use Rattle.play_save.proofs.Making.{AreMade, AreEntries, objects_made, entries_made, all_ready}

-- ---- tables of shapes, by the numbers of scripts

-- the tables with another one for the script of this number
abbrev put_table : ℕ → ShapeTable → Tables → Tables
put_table zero shapes tables zero = shapes
put_table zero shapes tables (suc n) = tables (suc n)
put_table (suc k) shapes tables zero = tables zero
put_table (suc k) shapes tables (suc n) = put_table k shapes (λ m. tables (suc m)) n

put_here : (k : ℕ) (shapes : ShapeTable) (tables : Tables) → put_table k shapes tables k ≡ shapes
put_here zero shapes tables = refl
put_here (suc k) shapes tables = put_here k shapes (λ m. tables (suc m))

put_meets : (header : EngineTable) (scripts : List Script) (k : ℕ) (script : Script) (shapes : ShapeTable) (tables : Tables) → AllMeet header scripts tables
    → slice_get scripts k ≡ Some script → MeetsRules header script.code shapes → AllMeet header scripts (put_table k shapes tables)
put_meets header [] k script shapes tables all at meets n x e = absurd cc
put_meets header (s ∷ ss) zero script shapes tables all at meets zero x e =
    let same : script ≡ x = cc in subst (λ (y : Script). MeetsRules header y.code shapes) same meets
put_meets header (s ∷ ss) zero script shapes tables all at meets (suc n) x e = all (suc n) x e
put_meets header (s ∷ ss) (suc k) script shapes tables all at meets zero x e = all zero x e
put_meets header (s ∷ ss) (suc k) script shapes tables all at meets (suc n) x e =
    put_meets header ss k script shapes (λ m. tables (suc m)) (λ m y f. all (suc m) y f) at meets n x e

-- ---- captured states

-- whatever tables meet the rules, the state fits them
abbrev FitsEach : EngineTable → List Script → Captured → Type 0
FitsEach header scripts c = (tables : Tables) → AllMeet header scripts tables → FitsOne scripts tables (saved_of c)

captured_in : (s : Parts) (header : Option (List ℕ)) (scripts : List Script) (listed : AreListed header scripts) (c : Captured) → OneHeader → SpellingLaws → s.header ≡ header
    → s.scripts ≡ map listed_part scripts → FitsEach listed.table scripts c → IsCapturedIn s c
captured_in s header scripts listed c one spellings same parts fit =
    let tables : Tables = chosen listed.table scripts listed.stacked in
    let meet : AllMeet listed.table scripts tables = chosen_meet listed.table scripts listed.stacked in
    let found = (fit tables meet).listed in
    record {
      script = listed_part found.0;
      listed = ap (λ (l : List ScriptPart). slice_get l c.script) parts ∙ slice_get-map listed_part scripts c.script ∙ ap (option_map listed_part) found.1;
      fits = λ table ops shapes heading file meets.
          let own : table ≡ listed.table = one_table header table listed.table one (subst (λ h. IsHeaderOf h table) same heading) listed.headed in
          let code : IsCode found.0.code = all_got (λ (x : Script). IsCode x.code) scripts c.script found.0 listed.code found.1 in
          let lists : ops ≡ found.0.code = one_file ops found.0.code (file_bytes found.0.code) spellings file (record { code = code; spelled = refl }) in
          let kept : MeetsRules listed.table found.0.code shapes =
          subst (λ t. MeetsRules t found.0.code shapes) own (subst (λ o. MeetsRules table o shapes) lists meets) in
          subst (λ t. Fits t (saved_of c)) (put_here c.script shapes tables)
          (fit (put_table c.script shapes tables) (put_meets listed.table scripts c.script found.0 shapes tables meet found.1 kept)).fits;
    }

module _ (s : Parts) (header : EngineTable) (scripts : List Script) (f : (c : Captured) → FitsEach header scripts c → IsCapturedIn s c) where
  items_in : (items : List Item) → ((tables : Tables) → AllMeet header scripts tables → AllByRecursion (ItemFits scripts tables) (map item_of items))
      → AllByRecursion (ItemHolds (IsCapturedIn s)) items
  items_in [] all = tt
  items_in (item.Do c ∷ items) all = (f c (λ tables meet. (all tables meet).0), items_in items (λ tables meet. (all tables meet).1))
  items_in (item.Wait ms ∷ items) all = (tt, items_in items (λ tables meet. (all tables meet).1))
  items_in (item.Speak text ∷ items) all = (tt, items_in items (λ tables meet. (all tables meet).1))

  objects_in : (os : List Object) → ((tables : Tables) → AllMeet header scripts tables → AllByRecursion (ThingsFit scripts tables) (map things_of os))
      → AllByRecursion (λ (o : Object). AllByRecursion (ItemHolds (IsCapturedIn s)) o.items) os
  objects_in [] all = tt
  objects_in (o ∷ os) all = (items_in o.items (λ tables meet. (all tables meet).0), objects_in os (λ tables meet. (all tables meet).1))

  kind_in : (k : KindPart) → ((tables : Tables) → AllMeet header scripts tables → KindFits scripts tables (kind_of k)) → KindHolds (IsCapturedIn s) k
  kind_in (kind.Event o script user) all = tt
  kind_in (kind.Stored o c) all = f c all
  kind_in (kind.Turn o) all = tt
  kind_in (kind.Unapply o) all = tt

  entries_in : (es : List Part) → ((tables : Tables) → AllMeet header scripts tables → AllByRecursion (EntryFits scripts tables) (map entry_of es))
      → AllByRecursion (λ (e : Part). KindHolds (IsCapturedIn s) e.kind) es
  entries_in [] all = tt
  entries_in (e ∷ es) all = (kind_in e.kind (λ tables meet. (all tables meet).0), entries_in es (λ tables meet. (all tables meet).1))

-- ---- scripts

sound_files : (header : EngineTable) (scripts : List Script) → AllByRecursion (λ (x : Script). IsCode x.code) scripts
    → AllByRecursion (λ (x : Script). WellStacked header x.code) scripts → AllByRecursion (λ (x : ScriptPart). IsSound header x.code) (map listed_part scripts)
sound_files header [] code stacked = tt
sound_files header (x ∷ xs) code stacked = (
  record { ops = x.code; file = record { code = code.0; spelled = refl }; stacked = stacked.0 },
  sound_files header xs code.1 stacked.1,
)

named_parts : (scripts : List Script) → AllByRecursion (λ (x : Script). IsTrue (is_script_name x.name)) scripts
    → AllByRecursion (λ (x : ScriptPart). IsTrue (is_script_name x.name)) (map listed_part scripts)
named_parts [] all = tt
named_parts (x ∷ xs) all = (all.0, named_parts xs all.1)

blob_parts : FileLength → (scripts : List Script) → AllByRecursion (λ (x : Script). IsTrue (is_script_name x.name)) scripts
    → AllByRecursion (λ (x : Script). IsCode x.code) scripts → AllByRecursion IsScript (map listed_part scripts)
blob_parts sizes [] names code = tt
blob_parts sizes (x ∷ xs) names code = ((name_blob x.name names.0, file_blob sizes x.code code.0), blob_parts sizes xs names.1 code.1)

-- ---- the parts

module _ (header : Option (List ℕ)) (scripts : List Script) (area : List ℕ) (limits : Limits) (taken done : ℕ) (w : World Saved) where
  abbrev parts : Parts
  parts = record {
    header = header;
    scripts = map listed_part scripts;
    area = area;
    version = w.version;
    limit = limits.0;
    entries = limits.1;
    until = limits.2;
    clock = w.clock;
    taken = taken;
    done = done;
    next = w.agenda.next;
    random = w.random;
    objects = object_parts w.area.objects w.things;
    agenda = map entry_part w.agenda.entries;
  }

  module _ (listed : AreListed header scripts) (rests : Rests listed.table scripts area w) (limited : MayLimit limits) (counted : MayCount limits w taken done) (room : HasRoom w) where
    entries_are : AreEntries (length w.area.objects) w.agenda.entries (map entry_part w.agenda.entries)
    entries_are =
        let world = rests.between.world in
        entries_made w.agenda.next (length w.area.objects) rests.next w.agenda.entries
        (all_ready w.agenda.next (length w.area.objects) w.agenda.entries world.agenda.below rests.due world.placed room.agenda)

    objects_are : AreMade w.area.objects w.things (object_parts w.area.objects w.things)
    objects_are = objects_made w.area.objects w.things rests.between.world.counted room.variables room.things

    tells : Tells parts (resting w)
    tells = record {
      clock = refl;
      version = refl;
      random = refl;
      next = refl;
      entries = entries_are.same;
      short = entries_are.short;
      objects = objects_are.told;
    }

    has_form : FileLength → length (parts_bytes parts) ≤ file_limit → HasForm parts
    has_form sizes small = record {
      header = listed.text;
      scripts = (let few = listed.few in omega (arith, length_map listed_part scripts), blob_parts sizes scripts listed.names listed.code);
      area = rests.blob;
      version = small_version rests.version;
      limit = (let most = limited.limit.1 in omega arith);
      entries = (let most = limited.entries.1 in omega arith);
      until = (let most = limited.until in omega arith);
      clock = (let most = limited.until in let here = counted.clock in omega arith);
      taken = (let most = limited.entries.1 in let here = counted.entries in omega arith);
      done = (let here = counted.instructions in omega arith);
      next = (let here = rests.next in omega arith);
      random = (let few = rests.random in omega arith, room.random);
      objects = all_objects;
      agenda = agenda_form parts
          (entries_are.form (let few = all_objects.0 in let count = parts_count w.area.objects w.things rests.between.world.counted in omega (arith, few, count))) small;
    }
      where
        small_version : (w.version ≡ 1) ⊎ (w.version ≡ 2) → IsNumber 1 w.version
        small_version (inl one) = omega (arith, one)
        small_version (inr two) = omega (arith, two)

        all_objects : IsList IsObject parts.objects
        all_objects = objects_form parts objects_are.form small

    has_area : HasArea parts
    has_area = record {
      tree = w.area.tree;
      area = rests.file;
      counted = sym (length_map things_of parts.objects) ∙ ap length tells.objects.kept ∙ rests.between.world.counted
          ∙ same_count w.area.objects (objects_of w.area.tree.top) rests.kept.same;
    }

    keeps_limits : KeepsLimits parts
    keeps_limits = record {
      bounds = record {
        version = rests.version;
        limit = limited.limit;
        entries = limited.entries;
        until = limited.until;
        scripts = (let few = listed.few in omega (arith, length_map listed_part scripts));
        random = rests.random;
      };
      counts = record {
        taken = counted.entries;
        clock = counted.clock;
        done = counted.instructions;
        next = rests.next;
        due = all_back entry_of (λ (e : Entry Saved). e.due < count_limit) parts.agenda
            (subst (AllByRecursion (λ (e : Entry Saved). e.due < count_limit)) (sym entries_are.same) rests.due);
      };
      names = record {
        names = named_parts scripts listed.names;
        distinct = subst (IsDistinct bytes_eq) (sym (map_map listed_part (λ (x : ScriptPart). x.name) scripts)) listed.distinct;
      };
      texts = record {
        variables = own_variables w.area.objects parts.objects tells.objects.variables rests.kept.distinct;
        items = tells.objects.short;
        entries = tells.short;
      };
    }

    has_states : OneHeader → SpellingLaws → HasStates parts
    has_states one spellings =
        let f : (c : Captured) → FitsEach listed.table scripts c → IsCapturedIn parts c = λ c fit. captured_in parts header scripts listed c one spellings refl refl fit in
        record {
          items = objects_in parts listed.table scripts f parts.objects
              (λ tables meet. subst (AllByRecursion (ThingsFit scripts tables)) (sym tells.objects.kept) (rests.fit tables meet).queues);
          entries = entries_in parts listed.table scripts f parts.agenda
              (λ tables meet. subst (AllByRecursion (EntryFits scripts tables)) (sym tells.entries) (rests.fit tables meet).agenda);
        }

    has_turns : HasTurns parts
    has_turns i o at =
        let here : queue_of (suc i) w ≡ (things_of o).queue = ap queue_in (queue_here parts.objects w.things i o tells.objects.kept at) in
        let settled = rests.between.settled (suc i) in
        record {
          own = ap (turn_count (suc i)) tells.entries ∙ settled.turns ∙ ap (λ (q : Queued Saved). turns_allowed q.busy) here;
          idle = λ free. no_items o.items (ap (λ (q : Queued Saved). q.actions) (sym here) ∙ settled.idle (ap (λ (q : Queued Saved). q.busy) here ∙ free));
        }

    is_accepted : OneHeader → SpellingLaws → IsAccepted parts
    is_accepted one spellings = (
      (listed.table, listed.headed),
      (
        record { table = listed.table; header = listed.headed; scripts = sound_files listed.table scripts listed.code listed.stacked },
        (has_area, (keeps_limits, (agenda_there parts (resting w) (world_too w rests.between.world) tells, (has_states one spellings, (has_turns, tt))))),
      ),
    )

pub plays_have_states : OneHeader → SpellingLaws → FileLength → PlaysHaveStates
plays_have_states one spellings sizes header scripts area limits taken done w listed rests limited counted room = record {
  state = parts header scripts area limits taken done w;
  form = has_form header scripts area limits taken done w listed rests limited counted room sizes;
  accepted = is_accepted header scripts area limits taken done w listed rests limited counted room one spellings;
  play = record { header = refl; scripts = refl; area = refl; limit = refl; entries = refl; until = refl };
  come = record { taken = refl; done = refl };
  world = record {
    tree = w.area.tree;
    area = rests.file;
    world = world_saved (parts header scripts area limits taken done w) w rests.kept.same (tells header scripts area limits taken done w listed rests limited counted room);
  };
}
