-- Captured states that fit the tables that are kept, and those that fit every table.
use Rattle.std.proofs.Common.{◌≡◌, ◌<◌, ◌≤◌, ℕ, zero, suc, List, [], ◌∷◌, length, drop, sym, ap, refl, ◌∙◌, subst, arith}
use Rattle.std.specs.Prelude.{Option, Some, None, slice_get, Bool, true, false, IsTrue, ◌↔◌}
use Rattle.std.proofs.lemmas.Bool.{iff_false}
use Rattle.std.specs.List.{AllByRecursion}
use Rattle.nwq_value.specs.Engine.{EngineTable}
use Rattle.nwq_value.specs.Limits.{file_limit}
use Rattle.engine_table.specs.Headers.{OneHeader}
use Rattle.ncs_code.specs.Plain.{PlainOp}
use Rattle.ncs_code.specs.File.{file_bytes, file_length, header_size, spellings}
use Rattle.ncs_code.specs.Spelling.{four}
use Rattle.ncs_code.specs.Reading.{ops_of}
use Rattle.ncs_code.specs.Laws.{SpellingLaws, FileLength}
use Rattle.stack_rules.specs.Rules.{MeetsRules, WellStacked}
use Rattle.stack_rules.specs.Fits.{Fits}
use Rattle.stack_check.specs.Checked.{FitsToo, kept_table}
use Rattle.ncs_machine.specs.declared.scripts.Loaded.{Loaded}
use Rattle.state_format.specs.declared.parts.Captured.{Captured}
use Rattle.state_format.specs.declared.parts.Item.{Item}
use Rattle.state_format.specs.declared.parts.Item.TheVariants as item
use Rattle.state_format.specs.declared.parts.KindPart.{KindPart}
use Rattle.state_format.specs.declared.parts.KindPart.TheVariants as kind
use Rattle.state_format.specs.declared.parts.Object.{Object}
use Rattle.state_format.specs.declared.parts.Entry.{Entry}
use Rattle.state_format.specs.declared.parts.Script.{Script}
use Rattle.state_format.specs.declared.parts.Parts.{Parts}
use Rattle.state_parts.specs.World.{saved_of}
use Rattle.play_save.specs.Rules.{IsHeaderOf, IsFileOf, IsSound, IsCapturedIn, ItemHolds, KindHolds, HasStates}
use Rattle.play_save.specs.Breaking.{AreScriptsOf, IsScriptOf, IsFitting}
use Rattle.play_save.specs.declared.prepare.Prepared.{Prepared}
use Rattle.play_save.proofs.Scripts.{HoldsScripts}

-- ---- a header has one table, and a file is one list of instructions

pub one_table : (header : Option (List ℕ)) (a b : EngineTable) → OneHeader → IsHeaderOf header a → IsHeaderOf header b → a ≡ b
one_table None a b one x y = x ∙ sym y
one_table (Some bytes) a b one x y = one.one_table bytes a b x.1 y.1

-- the magic and the length stand before the spellings
spelled_after : (ops : List PlainOp) → drop header_size (file_bytes ops) ≡ spellings ops
unfolding four
spelled_after ops = refl

pub one_file : (a b : List PlainOp) (bytes : List ℕ) → SpellingLaws → IsFileOf a bytes → IsFileOf b bytes → a ≡ b
one_file a b bytes laws x y =
    let same : spellings a ≡ spellings b = sym (spelled_after a) ∙ ap (drop header_size) (sym x.spelled ∙ y.spelled) ∙ spelled_after b in
    let shorter : length (spellings b) ≤ length (spellings a) = omega (arith, ap length same) in
    sym (laws.listed (length (spellings a)) a x.code.each (omega arith))
    ∙ ap (ops_of (length (spellings a))) same ∙ laws.listed (length (spellings a)) b y.code.each shorter

-- a file whose code is not well stacked isn't sound
pub unsound : (table : EngineTable) (bytes : List ℕ) (ops : List PlainOp) → SpellingLaws → IsFileOf ops bytes → (WellStacked table ops → ⊥) → IsSound table bytes → ⊥
unsound table bytes ops laws file never sound = never (subst (WellStacked table) (one_file sound.ops ops bytes laws sound.file file) sound.stacked)

-- a file's bytes aren't more than a file may have
pub too_long : (bytes : List ℕ) → FileLength → file_limit < length bytes → ((ops : List PlainOp) × IsFileOf ops bytes) → ⊥
too_long bytes sizes long has =
    let count : length bytes ≡ file_length has.0 = ap length has.1.spelled ∙ sizes has.0 in
    let most = has.1.code.bounded in
    absurd (omega (arith, count, most, long))

-- ---- scripts by their numbers

-- a script, and what was checked of it
pub record IsPair (table : EngineTable) (parts : List Script) (ls : List Loaded) (i : ℕ) : Type 0 where
  pub part : Script
  pub loaded : Loaded
  pub listed : slice_get parts i ≡ Some part
  pub held : slice_get ls i ≡ Some loaded
  pub of : IsScriptOf table part loaded

pub at_right : (table : EngineTable) (parts : List Script) (ls : List Loaded) (i : ℕ) (l : Loaded) → AreScriptsOf table parts ls → slice_get ls i ≡ Some l → IsPair table parts ls i
at_right table [] [] i l are at = absurd cc
at_right table [] (x ∷ ls) i l are at = absurd are
at_right table (p ∷ parts) [] i l are at = absurd are
at_right table (p ∷ parts) (x ∷ ls) zero l are at = record { part = p; loaded = x; listed = refl; held = refl; of = are.0 }
at_right table (p ∷ parts) (x ∷ ls) (suc i) l are at =
    let pair = at_right table parts ls i l are.1 at in
    record { part = pair.part; loaded = pair.loaded; listed = pair.listed; held = pair.held; of = pair.of }

pub at_left : (table : EngineTable) (parts : List Script) (ls : List Loaded) (i : ℕ) (p : Script) → AreScriptsOf table parts ls → slice_get parts i ≡ Some p → IsPair table parts ls i
at_left table [] [] i l are at = absurd cc
at_left table [] (x ∷ ls) i l are at = absurd are
at_left table (p ∷ parts) [] i l are at = absurd are
at_left table (p ∷ parts) (x ∷ ls) zero l are at = record { part = p; loaded = x; listed = refl; held = refl; of = are.0 }
at_left table (p ∷ parts) (x ∷ ls) (suc i) l are at =
    let pair = at_left table parts ls i l are.1 at in
    record { part = pair.part; loaded = pair.loaded; listed = pair.listed; held = pair.held; of = pair.of }

-- ---- one state

-- the laws that are called for
pub record Laws : Type 0 where
  pub header : OneHeader
  pub spellings : SpellingLaws
  pub fits : FitsToo

pub captured_if : (s : Parts) (p : Prepared) (c : Captured) → Laws → HoldsScripts s p → IsFitting p.scripts c → IsCapturedIn s c
captured_if s p c laws prepared is =
    let pair = at_right p.table s.scripts p.scripts c.script is.loaded prepared.scripts is.listed in
    let same : pair.loaded ≡ is.loaded = (let held = pair.held in let listed = is.listed in cc) in
    let checked = pair.of.checked in
    record {
      script = pair.part;
      listed = pair.listed;
      fits = λ table ops shapes header file meets.
          let tables : table ≡ p.table = one_table s.header table p.table laws.header header prepared.header in
          let lists : ops ≡ pair.loaded.code.code = one_file ops pair.loaded.code.code pair.part.code laws.spellings file checked.file in
          laws.fits (kept_table pair.loaded.code) shapes (saved_of c)
          (checked.stand shapes (subst (λ t. MeetsRules t pair.loaded.code.code shapes) tables (subst (λ o. MeetsRules table o shapes) lists meets)))
          (subst (λ (l : Loaded). Fits (kept_table l.code) (saved_of c)) (sym same) is.fits);
    }

pub fitting_if : (s : Parts) (p : Prepared) (c : Captured) → HoldsScripts s p → IsCapturedIn s c → IsFitting p.scripts c
fitting_if s p c prepared is =
    let pair = at_left p.table s.scripts p.scripts c.script is.script prepared.scripts is.listed in
    let same : pair.part ≡ is.script = (let held = is.listed in let listed = pair.listed in cc) in
    let checked = pair.of.checked in
    record {
      loaded = pair.loaded;
      listed = pair.held;
      fits = is.fits p.table pair.loaded.code.code (kept_table pair.loaded.code) prepared.header
          (subst (λ (x : Script). IsFileOf pair.loaded.code.code x.code) same checked.file) checked.meets;
    }

-- ---- all states

item_map : {P Q : Captured → Type 0} (f : (c : Captured) → P c → Q c) (i : Item) → ItemHolds P i → ItemHolds Q i
item_map f (item.Do c) is = f c is
item_map f (item.Wait ms) is = tt
item_map f (item.Speak text) is = tt

kind_map : {P Q : Captured → Type 0} (f : (c : Captured) → P c → Q c) (k : KindPart) → KindHolds P k → KindHolds Q k
kind_map f (kind.Event o script user) is = tt
kind_map f (kind.Stored o c) is = f c is
kind_map f (kind.Turn o) is = tt
kind_map f (kind.Unapply o) is = tt

all_map : {A : Type 0} {P Q : A → Type 0} (f : (x : A) → P x → Q x) (xs : List A) → AllByRecursion P xs → AllByRecursion Q xs
all_map f [] all = tt
all_map f (x ∷ xs) all = (f x all.0, all_map f xs all.1)

objects_map : {P Q : Captured → Type 0} (f : (c : Captured) → P c → Q c) (os : List Object) → AllByRecursion (λ (o : Object). AllByRecursion (ItemHolds P) o.items) os
    → AllByRecursion (λ (o : Object). AllByRecursion (ItemHolds Q) o.items) os
objects_map f [] all = tt
objects_map f (o ∷ os) all = (all_map (item_map f) o.items all.0, objects_map f os all.1)

entries_map : {P Q : Captured → Type 0} (f : (c : Captured) → P c → Q c) (es : List Entry) → AllByRecursion (λ (e : Entry). KindHolds P e.kind) es
    → AllByRecursion (λ (e : Entry). KindHolds Q e.kind) es
entries_map f [] all = tt
entries_map f (e ∷ es) all = (kind_map f e.kind all.0, entries_map f es all.1)

pub states_if : (s : Parts) (p : Prepared) → Laws → HoldsScripts s p → AllByRecursion (λ (o : Object). AllByRecursion (ItemHolds (IsFitting p.scripts)) o.items) s.objects
    → AllByRecursion (λ (e : Entry). KindHolds (IsFitting p.scripts) e.kind) s.agenda → HasStates s
states_if s p laws prepared items entries = record {
  items = objects_map (λ c is. captured_if s p c laws prepared is) s.objects items;
  entries = entries_map (λ c is. captured_if s p c laws prepared is) s.agenda entries;
}

pub items_if : (s : Parts) (p : Prepared) → HoldsScripts s p → HasStates s → AllByRecursion (λ (o : Object). AllByRecursion (ItemHolds (IsFitting p.scripts)) o.items) s.objects
items_if s p prepared has = objects_map (λ c is. fitting_if s p c prepared is) s.objects has.items

pub entries_if : (s : Parts) (p : Prepared) → HoldsScripts s p → HasStates s → AllByRecursion (λ (e : Entry). KindHolds (IsFitting p.scripts) e.kind) s.agenda
entries_if s p prepared has = entries_map (λ c is. fitting_if s p c prepared is) s.agenda has.entries

-- ---- what the tests of all states say

abbrev pub ItemsFit : Prepared → List Object → Type 0
ItemsFit p os = AllByRecursion (λ (o : Object). AllByRecursion (ItemHolds (IsFitting p.scripts)) o.items) os

abbrev pub EntriesFit : Prepared → List Entry → Type 0
EntriesFit p es = AllByRecursion (λ (e : Entry). KindHolds (IsFitting p.scripts) e.kind) es

pub states_tested : (s : Parts) (p : Prepared) (os : List Object) (es : List Entry) (a b : Bool) → Laws → HoldsScripts s p → os ≡ s.objects → es ≡ s.agenda
    → (IsTrue a ↔ ItemsFit p os) → (IsTrue b ↔ EntriesFit p es) → a ≡ true → b ≡ true → HasStates s
states_tested s p os es a b laws prepared objects agenda items entries first second =
    states_if s p laws prepared (subst (ItemsFit p) objects (items.0 first)) (subst (EntriesFit p) agenda (entries.0 second))

pub items_untested : (s : Parts) (p : Prepared) (os : List Object) (a : Bool) → HoldsScripts s p → os ≡ s.objects → (IsTrue a ↔ ItemsFit p os) → a ≡ false → HasStates s → ⊥
items_untested s p os a prepared objects items never has = iff_false items never (subst (ItemsFit p) (sym objects) (items_if s p prepared has))

pub entries_untested : (s : Parts) (p : Prepared) (es : List Entry) (b : Bool) → HoldsScripts s p → es ≡ s.agenda → (IsTrue b ↔ EntriesFit p es) → b ≡ false → HasStates s → ⊥
entries_untested s p es b prepared agenda entries never has = iff_false entries never (subst (EntriesFit p) (sym agenda) (entries_if s p prepared has))
