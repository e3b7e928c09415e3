-- What a play goes on from: scripts that keep their tables, and captured states that fit them.
use Rattle.std.proofs.Common.{◌≡◌, ◌≤◌, ◌<◌, ◌^◌, ◌&&◌, ℕ, zero, suc, true, List, [], ◌∷◌, length, map, sym, ap, refl, ◌∙◌, subst, nat_lt, nat_le, arith}
use Rattle.std.proofs.lemmas.Bool.{and_parts}
use Rattle.std.proofs.lemmas.Bool.Decides.{nat_tests}
use Rattle.std.specs.Prelude.{Some, IsTrue, slice_get}
use Rattle.std.specs.List.{AllByRecursion, list_all}
use Rattle.nwq_value.specs.Engine.{EngineTable}
use Rattle.nwq_value.specs.Limits.{text_limit, script_limit}
use Rattle.nwq_text.specs.Names.{is_script_name, is_script_byte}
use Rattle.ncs_code.specs.File.{IsCode, file_bytes}
use Rattle.machine_rules.specs.Machine.{Script as MachineScript}
use Rattle.stack_rules.specs.Rules.{MeetsRules}
use Rattle.stack_rules.specs.Fits.{FitsOne}
use Rattle.stack_rules.specs.Laws.{AllMeet}
use Rattle.stack_check.specs.Checked.{AllStand}
use Rattle.ncs_machine.specs.declared.scripts.Loaded.{Loaded}
use Rattle.ncs_machine.specs.Host.{script_of, scripts_of, tables_of}
use Rattle.ncs_machine.specs.Stored.{EntryFits, ItemFits, ThingsFit, StatesFit}
use Rattle.gff_tree.specs.Whole.{PlainGff}
use Rattle.state_format.specs.declared.parts.Captured.{Captured}
use Rattle.state_format.specs.declared.parts.Item.{Item as ItemPart}
use Rattle.state_format.specs.declared.parts.Item.TheVariants as item
use Rattle.state_format.specs.declared.parts.KindPart.TheVariants as kind
use Rattle.state_format.specs.declared.parts.KindPart.{KindPart}
use Rattle.state_format.specs.declared.parts.Object.{Object}
use Rattle.state_format.specs.declared.parts.Entry.{Entry}
use Rattle.state_format.specs.declared.parts.Script.{Script}
use Rattle.state_format.specs.declared.parts.Parts.{Parts}
use Rattle.state_parts.specs.World.{saved_of, item_of, things_of, entry_of, world_of}
use Rattle.play_save.specs.Rules.{ItemHolds, KindHolds, Rule, rules, KeepsAll, IsFirstBroken, IsAccepted}
use Rattle.play_save.specs.declared.fault.StateFault.{StateFault}
use Rattle.play_save.specs.declared.fault.StateFault.TheVariants as fault
use Rattle.play_save.specs.Scripts.{script_parts}
use Rattle.play_save.specs.Breaking.{AreScriptsOf, IsFitting, BreaksFirst}
use Rattle.play_save.proofs.Lists.{take_whole}

script_at : (ls : List Loaded) (n : ℕ) (l : Loaded) → slice_get ls n ≡ Some l → slice_get (scripts_of ls) n ≡ Some (script_of l)
script_at [] n l at = absurd cc
script_at (x ∷ ls) zero l at = (let e = at in cc)
script_at (x ∷ ls) (suc n) l at = script_at ls n l at

pub all_meet : (table : EngineTable) (parts : List Script) (ls : List Loaded) → AreScriptsOf table parts ls → AllMeet table (scripts_of ls) (tables_of ls)
all_meet table [] [] are number script at = absurd cc
all_meet table [] (l ∷ ls) are number script at = absurd are
all_meet table (p ∷ parts) [] are number script at = absurd are
all_meet table (p ∷ parts) (l ∷ ls) are zero script at =
    let same : script_of l ≡ script = cc in subst (λ (x : MachineScript). MeetsRules table x.code (tables_of (l ∷ ls) 0)) same are.0.checked.meets
all_meet table (p ∷ parts) (l ∷ ls) are (suc number) script at = all_meet table parts ls are.1 number script at

pub all_code : (table : EngineTable) (parts : List Script) (ls : List Loaded) → AreScriptsOf table parts ls → AllByRecursion (λ (l : Loaded). IsCode l.code.code) ls
all_code table [] [] are = tt
all_code table [] (l ∷ ls) are = absurd are
all_code table (p ∷ parts) [] are = absurd are
all_code table (p ∷ parts) (l ∷ ls) are = (are.0.checked.file.code, all_code table parts ls are.1)

pub all_stand : (table : EngineTable) (parts : List Script) (ls : List Loaded) → AreScriptsOf table parts ls → AllStand table (scripts_of ls) (tables_of ls)
all_stand table [] [] are number script other at meets = absurd cc
all_stand table [] (l ∷ ls) are number script other at meets = absurd are
all_stand table (p ∷ parts) [] are number script other at meets = absurd are
all_stand table (p ∷ parts) (l ∷ ls) are zero script other at meets =
    let same : script ≡ script_of l = cc in are.0.checked.stand other (subst (λ (x : MachineScript). MeetsRules table x.code other) same meets)
all_stand table (p ∷ parts) (l ∷ ls) are (suc number) script other at meets = all_stand table parts ls are.1 number script other at meets

abbrev as_part : List ℕ → List ℕ → Script
as_part name code = record { name = name; code = code }

-- names that are short are whole
pub same_parts : (table : EngineTable) (parts : List Script) (ls : List Loaded) → AllByRecursion (λ (x : Script). length x.name ≤ text_limit) parts → AreScriptsOf table parts ls
    → script_parts ls ≡ parts
same_parts table [] [] small are = refl
same_parts table [] (l ∷ ls) small are = absurd are
same_parts table (p ∷ parts) [] small are = absurd are
same_parts table (p ∷ parts) (l ∷ ls) small are =
    let name : l.name ≡ p.name = are.0.name ∙ take_whole text_limit p.name small.0 in
    ap (λ (n : List ℕ). as_part n (file_bytes l.code.code) ∷ script_parts ls) name
    ∙ ap (λ (c : List ℕ). as_part p.name c ∷ script_parts ls) (sym are.0.checked.file.spelled)
    ∙ ap (λ (rest : List Script). p ∷ rest) (same_parts table parts ls small.1 are.1)

-- ---- captured states

one_fits : (ls : List Loaded) (c : Captured) → IsFitting ls c → FitsOne (scripts_of ls) (tables_of ls) (saved_of c)
one_fits ls c is = record {
  listed = (script_of is.loaded, script_at ls c.script is.loaded is.listed);
  fits = rw is.listed is.fits;
}

items_fit : (ls : List Loaded) (items : List ItemPart) → AllByRecursion (ItemHolds (IsFitting ls)) items → AllByRecursion (ItemFits (scripts_of ls) (tables_of ls)) (map item_of items)
items_fit ls [] all = tt
items_fit ls (item.Do c ∷ items) all = (one_fits ls c all.0, items_fit ls items all.1)
items_fit ls (item.Wait ms ∷ items) all = (tt, items_fit ls items all.1)
items_fit ls (item.Speak text ∷ items) all = (tt, items_fit ls items all.1)

objects_fit : (ls : List Loaded) (os : List Object) → AllByRecursion (λ (o : Object). AllByRecursion (ItemHolds (IsFitting ls)) o.items) os
    → AllByRecursion (ThingsFit (scripts_of ls) (tables_of ls)) (map things_of os)
objects_fit ls [] all = tt
objects_fit ls (o ∷ os) all = (items_fit ls o.items all.0, objects_fit ls os all.1)

kind_fits : (ls : List Loaded) (e : Entry) → KindHolds (IsFitting ls) e.kind → EntryFits (scripts_of ls) (tables_of ls) (entry_of e)
kind_fits ls e is = by_kind e.kind is
  where
    by_kind : (k : KindPart) → KindHolds (IsFitting ls) k → EntryFits (scripts_of ls) (tables_of ls) (entry_of (record e { kind = k }))
    by_kind (kind.Event o script user) is = tt
    by_kind (kind.Stored o c) is = one_fits ls c is
    by_kind (kind.Turn o) is = tt
    by_kind (kind.Unapply o) is = tt

entries_fit : (ls : List Loaded) (es : List Entry) → AllByRecursion (λ (e : Entry). KindHolds (IsFitting ls) e.kind) es
    → AllByRecursion (EntryFits (scripts_of ls) (tables_of ls)) (map entry_of es)
entries_fit ls [] all = tt
entries_fit ls (e ∷ es) all = (kind_fits ls e all.0, entries_fit ls es all.1)

pub states_fit : (ls : List Loaded) (tree : PlainGff) (s : Parts) → AllByRecursion (λ (o : Object). AllByRecursion (ItemHolds (IsFitting ls)) o.items) s.objects
    → AllByRecursion (λ (e : Entry). KindHolds (IsFitting ls) e.kind) s.agenda → StatesFit (scripts_of ls) (tables_of ls) (world_of tree s)
states_fit ls tree s items entries = record { agenda = entries_fit ls s.agenda entries; queues = objects_fit ls s.objects items }

-- ---- what is read again of an accepted state

small_name : (name : List ℕ) → is_script_name name ≡ true → length name ≤ text_limit
unfolding is_script_name
small_name name h =
    let parts = and_parts (nat_lt 0 (length name) && nat_le (length name) 16) (list_all is_script_byte name) h in
    let few = and_parts (nat_lt 0 (length name)) (nat_le (length name) 16) parts.0 in
    short (length name) few.1
  where
    short : (n : ℕ) → nat_le n 16 ≡ true → n ≤ text_limit
    short n h = grind (arith, nat_tests)

pub small_names : (parts : List Script) → AllByRecursion (λ (x : Script). IsTrue (is_script_name x.name)) parts → AllByRecursion (λ (x : Script). length x.name ≤ text_limit) parts
small_names [] all = tt
small_names (p ∷ parts) all = (small_name p.name all.0, small_names parts all.1)

as_many : (table : EngineTable) (parts : List Script) (ls : List Loaded) → AreScriptsOf table parts ls → length ls ≡ length parts
as_many table [] [] are = refl
as_many table [] (l ∷ ls) are = absurd are
as_many table (p ∷ parts) [] are = absurd are
as_many table (p ∷ parts) (l ∷ ls) are = ap suc (as_many table parts ls are.1)

pub few_scripts : (table : EngineTable) (parts : List Script) (ls : List Loaded) → length parts ≤ script_limit → AreScriptsOf table parts ls → length ls < 2 ^ 32
few_scripts table parts ls few are = let same = as_many table parts ls are in omega (arith, same, few)

none_broken : (n : ℕ) (rs : List Rule) (s : Parts) → KeepsAll rs s → IsFirstBroken n rs s → ⊥
none_broken n [] s kept broken = broken
none_broken zero (r ∷ rs) s kept broken = broken
none_broken (suc zero) (r ∷ rs) s kept broken = broken kept.0
none_broken (suc (suc n)) (r ∷ rs) s kept broken = none_broken (suc n) rs s kept.1 broken.1

-- memory alone can be wanting
pub memory_only : (s : Parts) (f : StateFault) → IsAccepted s → BreaksFirst s f → f ≡ fault.NoMemory
memory_only s (fault.Place at) kept broken = absurd broken
memory_only s (fault.Unfit n) kept broken = absurd (none_broken n rules s kept broken)
memory_only s fault.NoMemory kept broken = refl
