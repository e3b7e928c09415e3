-- The state of a play that may be saved keeps all rules.
use Rattle.std.proofs.Common.{◌≡◌, ◌<◌, ◌≤◌, ℕ, zero, suc, ◌⊎◌, List, [], ◌∷◌, length, map, sym, ap, refl, ◌∙◌, subst, arith}
use Rattle.std.specs.Prelude.{Option, Some, slice_get, IsTrue}
use Rattle.std.specs.List.{AllByRecursion, IsDistinct}
use Rattle.std.specs.Str.{bytes_eq}
use Rattle.nwq_text.specs.Names.{is_script_name}
use Rattle.nwq_value.specs.Engine.{EngineTable}
use Rattle.nwq_value.specs.Limits.{instruction_limit, entry_limit, time_limit, script_limit, random_limit}
use Rattle.ncs_code.specs.File.{IsCode, file_bytes}
use Rattle.local_variables.specs.Variables.{same_variable}
use Rattle.area_rules.specs.Objects.{AreaObject, objects_of}
use Rattle.area_rules.specs.Area.{IsArea, bare, HaveDistinct}
use Rattle.delay_agenda.specs.declared.entry.Entry.{Entry}
use Rattle.delay_agenda.specs.Waiting.{IsAgenda, turn_count}
use Rattle.stack_rules.specs.Rules.{MeetsRules, WellStacked}
use Rattle.stack_rules.specs.Fits.{FitsOne}
use Rattle.machine_rules.specs.Machine.{Script as MachineScript}
use Rattle.saved_state.specs.declared.saved.Saved.{Saved}
use Rattle.action_queue.specs.Queued.{Queued}
use Rattle.world_rules.specs.declared.data.Things.{Things}
use Rattle.world_rules.specs.World.{World, queue_of, queue_in}
use Rattle.world_rules.specs.Kept.{IsWorld, IsPlaced, turns_allowed}
use Rattle.ncs_machine.specs.declared.scripts.Loaded.{Loaded}
use Rattle.ncs_machine.specs.Host.{script_of, scripts_of, tables_of}
use Rattle.ncs_machine.specs.Stored.{KindFits, EntryFits, ItemFits, ThingsFit}
use Rattle.state_format.specs.declared.parts.Captured.{Captured}
use Rattle.state_format.specs.declared.parts.Item.{Item}
use Rattle.state_format.specs.declared.parts.Item.TheVariants as item
use Rattle.state_format.specs.declared.parts.KindPart.{KindPart}
use Rattle.state_format.specs.declared.parts.KindPart.TheVariants as kind
use Rattle.state_format.specs.declared.parts.Object.{Object}
use Rattle.state_format.specs.declared.parts.Entry.{Entry as Part}
use Rattle.state_format.specs.declared.parts.Script.{Script}
use Rattle.state_format.specs.declared.parts.Parts.{Parts}
use Rattle.plan_text.specs.Plans.{Limits}
use Rattle.state_parts.specs.World.{saved_of, item_of, things_of, variables_of, kind_of, entry_of, entries_of}
use Rattle.play_save.specs.Scripts.{script_part, script_parts}
use Rattle.play_save.specs.Rules.{IsHeaderOf, IsAreaOf, IsSound, HasHeader, HasScripts, HasArea, AreNamed, KeepsLimits, HasAgenda, HasStates, HasTurns, IsCapturedIn, ItemHolds, KindHolds, count_limit}
use Rattle.play_save.specs.States.{MayLimit, MayList, MayRest, MayCount, IsPlayOf, HasCome}
use Rattle.play_save.specs.Keeping.{Tells}
use Rattle.play_save.proofs.CapturedLemmas.{Laws, one_table, one_file}
use Rattle.std.specs.Option.{option_map}
use Rattle.std.proofs.lemmas.Option.{slice_get-map}

-- ---- lists

all_mapped : {A B : Type 0} (f : A → B) (P : B → Type 0) (xs : List A) → AllByRecursion (λ x. P (f x)) xs → AllByRecursion P (map f xs)
all_mapped f P [] all = tt
all_mapped f P (x ∷ xs) all = (all.0, all_mapped f P xs all.1)

pub all_back : {A B : Type 0} (f : A → B) (P : B → Type 0) (xs : List A) → AllByRecursion P (map f xs) → AllByRecursion (λ x. P (f x)) xs
all_back f P [] all = tt
all_back f P (x ∷ xs) all = (all.0, all_back f P xs all.1)

pub length_map : {A B : Type 0} (f : A → B) (xs : List A) → length (map f xs) ≡ length xs
length_map f [] = refl
length_map f (x ∷ xs) = ap suc (length_map f xs)

pub map_map : {A B C : Type 0} (f : A → B) (g : B → C) (xs : List A) → map g (map f xs) ≡ map (λ x. g (f x)) xs
map_map f g [] = refl
map_map f g (x ∷ xs) = ap (λ (l : List _). g (f x) ∷ l) (map_map f g xs)

-- ---- 1 and 2

pub header_there : (s : Parts) (header : Option (List ℕ)) (scripts : List Loaded) → s.header ≡ header → MayList header scripts → HasHeader s
header_there s header scripts same may = (may.table, subst (λ h. IsHeaderOf h may.table) (sym same) may.headed)

sound_parts : (table : EngineTable) (ls : List Loaded) → AllByRecursion (λ (l : Loaded). IsCode l.code.code) ls
    → ((n : ℕ) (script : MachineScript) → slice_get (scripts_of ls) n ≡ Some script → WellStacked table script.code)
    → AllByRecursion (λ (x : Script). IsSound table x.code) (script_parts ls)
sound_parts table [] code stacked = tt
sound_parts table (l ∷ ls) code stacked = (
  record { ops = l.code.code; file = record { code = code.0; spelled = refl }; stacked = stacked 0 (script_of l) refl },
  sound_parts table ls code.1 (λ n script at. stacked (suc n) script at),
)

pub scripts_there : (s : Parts) (header : Option (List ℕ)) (scripts : List Loaded) → s.header ≡ header → s.scripts ≡ script_parts scripts → MayList header scripts
    → AllByRecursion (λ (l : Loaded). IsCode l.code.code) scripts → HasScripts s
scripts_there s header scripts same parts may code = record {
  table = may.table;
  header = subst (λ h. IsHeaderOf h may.table) (sym same) may.headed;
  scripts = subst (AllByRecursion (λ (x : Script). IsSound may.table x.code)) (sym parts)
      (sound_parts may.table scripts code (λ n script at. (tables_of scripts n, may.meets n script at)));
}

-- ---- 3

pub same_count : (xs ys : List AreaObject) → map bare xs ≡ map bare ys → length xs ≡ length ys
same_count xs ys e = sym (length_map bare xs) ∙ ap length e ∙ length_map bare ys

pub area_there : (s : Parts) (scripts : List Loaded) (area : List ℕ) (w : World Saved) → s.area ≡ area → MayRest scripts area w → IsArea w.area → IsWorld w → Tells s w → HasArea s
area_there s scripts area w same may is world tells = record {
  tree = w.area.tree;
  area = subst (IsAreaOf w.area.tree) (sym same) may.file;
  counted = sym (length_map things_of s.objects) ∙ ap length tells.objects.kept ∙ world.counted ∙ same_count w.area.objects (objects_of w.area.tree.top) is.same;
}

-- ---- 4

named : (ls : List Loaded) → AllByRecursion (λ (l : Loaded). IsTrue (is_script_name l.name)) ls → AllByRecursion (λ (x : Script). IsTrue (is_script_name x.name)) (script_parts ls)
named [] all = tt
named (l ∷ ls) all = (all.0, named ls all.1)

pub own_variables : (os : List AreaObject) (parts : List Object) → map variables_of parts ≡ map (λ (o : AreaObject). o.vars) os → HaveDistinct os
    → AllByRecursion (λ (o : Object). IsDistinct same_variable (variables_of o)) parts
own_variables [] [] e all = tt
own_variables [] (p ∷ parts) e all = absurd cc
own_variables (o ∷ os) [] e all = absurd cc
own_variables (o ∷ os) (p ∷ parts) e all = (subst (IsDistinct same_variable) (let h = e in cc) all.0, own_variables os parts (let h = e in cc) all.1)

pub limits_kept : (s : Parts) (header : Option (List ℕ)) (scripts : List Loaded) (area : List ℕ) (limits : Limits) (taken done : ℕ) (w : World Saved)
    → IsPlayOf s header (script_parts scripts) area limits → HasCome s taken done → MayLimit limits → MayList header scripts → MayRest scripts area w
    → MayCount limits w taken done → IsArea w.area → Tells s w → KeepsLimits s
limits_kept s header scripts area limits taken done w play come limited listed rests counted is tells = record {
  bounds = record {
    version = subst (λ (v : ℕ). (v ≡ 1) ⊎ (v ≡ 2)) (sym tells.version) rests.version;
    limit = subst (λ (n : ℕ). (1 ≤ n) × (n ≤ instruction_limit)) (sym play.limit) limited.limit;
    entries = subst (λ (n : ℕ). (1 ≤ n) × (n ≤ entry_limit)) (sym play.entries) limited.entries;
    until = subst (λ (n : ℕ). n ≤ time_limit) (sym play.until) limited.until;
    scripts = subst (λ (l : List Script). length l ≤ script_limit) (sym play.scripts) (let few = listed.few in omega (arith, length_map script_part scripts));
    random = subst (λ (l : List ℕ). length l ≤ random_limit) (sym tells.random) rests.random;
  };
  counts = record {
    taken = (let a = counted.entries in let b = come.taken in let c = play.entries in omega arith);
    clock = (let a = counted.clock in let b = tells.clock in let c = play.until in omega arith);
    done = subst (λ (n : ℕ). n < count_limit) (sym come.done) counted.instructions;
    next = subst (λ (n : ℕ). n < count_limit) (sym tells.next) rests.next;
    due = all_back entry_of (λ (e : Entry Saved). e.due < count_limit) s.agenda (subst (AllByRecursion (λ (e : Entry Saved). e.due < count_limit)) (sym tells.entries) rests.due);
  };
  names = subst AreNamed (sym play.scripts) (record {
    names = named scripts listed.names;
    distinct = subst (IsDistinct bytes_eq) (sym (map_map script_part (λ (x : Script). x.name) scripts)) listed.distinct;
  });
  texts = record {
    variables = own_variables w.area.objects s.objects tells.objects.variables is.distinct;
    items = tells.objects.short;
    entries = tells.short;
  };
}

-- ---- 5 and 7

same_agenda : (s : Parts) (w : World Saved) → Tells s w → record { entries = entries_of s; next = s.next } ≡ w.agenda
same_agenda s w tells =
    ap (λ (l : List (Entry Saved)). record { entries = l; next = s.next }) tells.entries ∙ ap (λ (n : ℕ). record { entries = w.agenda.entries; next = n }) tells.next

pub agenda_there : (s : Parts) (w : World Saved) → IsWorld w → Tells s w → HasAgenda s
agenda_there s w world tells = record {
  agenda = subst IsAgenda (sym (same_agenda s w tells)) world.agenda;
  due = all_back entry_of (λ (e : Entry Saved). s.clock ≤ e.due) s.agenda
      (subst (λ (l : List (Entry Saved)). AllByRecursion (λ (e : Entry Saved). s.clock ≤ e.due) l) (sym tells.entries)
      (subst (λ n. AllByRecursion (λ (e : Entry Saved). n ≤ e.due) w.agenda.entries) (sym tells.clock) world.due));
  placed = all_back entry_of (λ (e : Entry Saved). IsPlaced (length s.objects) e.kind) s.agenda
      (subst (λ (l : List (Entry Saved)). AllByRecursion (λ (e : Entry Saved). IsPlaced (length s.objects) e.kind) l) (sym tells.entries)
      (subst (λ n. AllByRecursion (λ (e : Entry Saved). IsPlaced n e.kind) w.agenda.entries)
      (sym (sym (length_map things_of s.objects) ∙ ap length tells.objects.kept ∙ world.counted)) world.placed));
}

pub queue_here : (objects : List Object) (things : List (Things Saved)) (i : ℕ) (o : Object) → map things_of objects ≡ things → slice_get objects i ≡ Some o → slice_get things i ≡ Some (things_of o)
queue_here objects things i o same at = ap (λ (ts : List (Things Saved)). slice_get ts i) (sym same) ∙ slice_get-map things_of objects i ∙ ap (option_map things_of) at

pub no_items : (items : List Item) → map item_of items ≡ [] → items ≡ []
no_items [] e = refl
no_items (x ∷ items) e = absurd cc

pub turns_there : (s : Parts) (scripts : List Loaded) (area : List ℕ) (w : World Saved) → MayRest scripts area w → Tells s w → HasTurns s
turns_there s scripts area w rests tells i o at =
    let here : queue_of (suc i) w ≡ (things_of o).queue = ap queue_in (queue_here s.objects w.things i o tells.objects.kept at) in
    record {
      own = ap (turn_count (suc i)) tells.entries ∙ rests.turns (suc i) ∙ ap (λ (q : Queued Saved). turns_allowed q.busy) here;
      idle = λ free. no_items o.items (ap (λ (q : Queued Saved). q.actions) (sym here) ∙ rests.idle (suc i) (ap (λ (q : Queued Saved). q.busy) here ∙ free));
    }

-- ---- 6

-- the listed script of a number
pub record IsLoadedAt (ls : List Loaded) (n : ℕ) (script : MachineScript) : Type 0 where
  pub loaded : Loaded
  pub held : slice_get ls n ≡ Some loaded
  pub is : script ≡ script_of loaded
  pub code : IsCode loaded.code.code

loaded_at : (ls : List Loaded) (n : ℕ) (script : MachineScript) → AllByRecursion (λ (l : Loaded). IsCode l.code.code) ls → slice_get (scripts_of ls) n ≡ Some script → IsLoadedAt ls n script
loaded_at [] n script code at = absurd cc
loaded_at (l ∷ ls) zero script code at = record { loaded = l; held = refl; is = (let e = at in cc); code = code.0 }
loaded_at (l ∷ ls) (suc n) script code at =
    let found = loaded_at ls n script code.1 at in
    record { loaded = found.loaded; held = found.held; is = found.is; code = found.code }

captured_there : (s : Parts) (header : Option (List ℕ)) (ls : List Loaded) (c : Captured) → Laws → s.header ≡ header → s.scripts ≡ script_parts ls → MayList header ls
    → AllByRecursion (λ (l : Loaded). IsCode l.code.code) ls → FitsOne (scripts_of ls) (tables_of ls) (saved_of c) → IsCapturedIn s c
captured_there s header ls c laws same parts may code is =
    let found = loaded_at ls c.script is.listed.0 code is.listed.1 in
    record {
      script = script_part found.loaded;
      listed = ap (λ (l : List Script). slice_get l c.script) parts ∙ slice_get-map script_part ls c.script ∙ ap (option_map script_part) found.held;
      fits = λ table ops shapes heading file meets.
          let tables : table ≡ may.table = one_table header table may.table laws.header (subst (λ h. IsHeaderOf h table) same heading) may.headed in
          let lists : ops ≡ found.loaded.code.code = one_file ops found.loaded.code.code (file_bytes found.loaded.code.code) laws.spellings file (record { code = found.code; spelled = refl }) in
          laws.fits (tables_of ls c.script) shapes (saved_of c)
          (may.stand c.script is.listed.0 shapes is.listed.1
          (subst (λ (x : MachineScript). MeetsRules may.table x.code shapes) (sym found.is)
          (subst (λ t. MeetsRules t found.loaded.code.code shapes) tables
          (subst (λ o. MeetsRules table o shapes) lists meets))))
          is.fits;
    }

items_there : (s : Parts) (ls : List Loaded) (f : (c : Captured) → FitsOne (scripts_of ls) (tables_of ls) (saved_of c) → IsCapturedIn s c) (items : List Item)
    → AllByRecursion (ItemFits (scripts_of ls) (tables_of ls)) (map item_of items) → AllByRecursion (ItemHolds (IsCapturedIn s)) items
items_there s ls f [] all = tt
items_there s ls f (item.Do c ∷ items) all = (f c all.0, items_there s ls f items all.1)
items_there s ls f (item.Wait ms ∷ items) all = (tt, items_there s ls f items all.1)
items_there s ls f (item.Speak text ∷ items) all = (tt, items_there s ls f items all.1)

objects_there : (s : Parts) (ls : List Loaded) (f : (c : Captured) → FitsOne (scripts_of ls) (tables_of ls) (saved_of c) → IsCapturedIn s c) (os : List Object)
    → AllByRecursion (ThingsFit (scripts_of ls) (tables_of ls)) (map things_of os) → AllByRecursion (λ (o : Object). AllByRecursion (ItemHolds (IsCapturedIn s)) o.items) os
objects_there s ls f [] all = tt
objects_there s ls f (o ∷ os) all = (items_there s ls f o.items all.0, objects_there s ls f os all.1)

kind_there : (s : Parts) (ls : List Loaded) (f : (c : Captured) → FitsOne (scripts_of ls) (tables_of ls) (saved_of c) → IsCapturedIn s c) (k : KindPart)
    → KindFits (scripts_of ls) (tables_of ls) (kind_of k) → KindHolds (IsCapturedIn s) k
kind_there s ls f (kind.Event o script user) is = tt
kind_there s ls f (kind.Stored o c) is = f c is
kind_there s ls f (kind.Turn o) is = tt
kind_there s ls f (kind.Unapply o) is = tt

entries_there : (s : Parts) (ls : List Loaded) (f : (c : Captured) → FitsOne (scripts_of ls) (tables_of ls) (saved_of c) → IsCapturedIn s c) (es : List Part)
    → AllByRecursion (EntryFits (scripts_of ls) (tables_of ls)) (map entry_of es) → AllByRecursion (λ (e : Part). KindHolds (IsCapturedIn s) e.kind) es
entries_there s ls f [] all = tt
entries_there s ls f (e ∷ es) all = (kind_there s ls f e.kind all.0, entries_there s ls f es all.1)

pub states_there : (s : Parts) (header : Option (List ℕ)) (ls : List Loaded) (area : List ℕ) (w : World Saved) → Laws → s.header ≡ header → s.scripts ≡ script_parts ls → MayList header ls
    → AllByRecursion (λ (l : Loaded). IsCode l.code.code) ls → MayRest ls area w → Tells s w → HasStates s
states_there s header ls area w laws same parts may code rests tells =
    let f : (c : Captured) → FitsOne (scripts_of ls) (tables_of ls) (saved_of c) → IsCapturedIn s c = λ c is. captured_there s header ls c laws same parts may code is in
    record {
      items = objects_there s ls f s.objects (subst (AllByRecursion (ThingsFit (scripts_of ls) (tables_of ls))) (sym tells.objects.kept) rests.fit.queues);
      entries = entries_there s ls f s.agenda (subst (AllByRecursion (EntryFits (scripts_of ls) (tables_of ls))) (sym tells.entries) rests.fit.agenda);
    }
