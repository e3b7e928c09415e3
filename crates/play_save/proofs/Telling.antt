-- A play that rests is put field by field.
use Rattle.std.proofs.Common.{◌≡◌, ◌<◌, ◌≤◌, ℕ, zero, suc, ◌+◌, List, [], ◌∷◌, ◌++◌, length, take, get_or, map, sym, ap, refl, ◌∙◌, add-one, subst, arith, append_assoc}
use Rattle.std.specs.Prelude.{Option, Some, Result, Ok, Err, OnOk, IsTrue}
use Rattle.std.specs.List.{flat_map, AllByRecursion}
use Rattle.std.specs.Option.{option_map}
use Rattle.std.proofs.lemmas.List.{append-nil, take_all}
use Rattle.ncs_code.specs.File.{IsCode}
use Rattle.area_rules.specs.Objects.{AreaObject}
use Rattle.area_rules.specs.Area.{object_at}
use Rattle.delay_agenda.specs.declared.entry.Entry.{Entry}
use Rattle.local_variables.specs.Variables.{Variable}
use Rattle.world_rules.specs.declared.data.Things.{Things}
use Rattle.saved_state.specs.declared.saved.Saved.{Saved}
use Rattle.ncs_machine.specs.declared.scripts.Loaded.{Loaded}
use Rattle.state_format.specs.Fields.{joined, magic, tag, blob, maybe_fields, blob_fields, script_fields, number_fields, object_fields, entry_fields, list_of, parts_fields}
use Rattle.state_format.specs.Parts.{IsBlob, IsMaybe, IsScript, IsObject}
use Rattle.state_format.specs.WritingLemmas.{fields_behind, put_one, put_then, parts_put}
use Rattle.state_format.specs.declared.parts.Script.{Script}
use Rattle.state_parts.specs.World.{things_of, variables_of}
use Rattle.state_parts.specs.Told.{object_with, object_part, object_parts, entry_part}
use Rattle.state_parts.specs.ShortTexts.{has_short_items}
use Rattle.play_save.specs.declared.told.Numbers.{Numbers}
use Rattle.play_save.specs.declared.told.Resting.{Resting}
use Rattle.play_save.specs.Scripts.{script_part, script_parts}
use Rattle.play_save.specs.Keeping.{AreObjectsOf}
use Rattle.play_save.specs.Telling.{number_row, front_fields, back_fields, resting_parts}
use Rattle.play_save.proofs.Keeping.{none_kept, objects_more, objects_end}

pub both_done : {T E : Type 0} (P Q : Type 0) (r : Result T E) → OnOk r P → OnOk r Q → OnOk r (P × Q)
both_done P Q (Ok x) p q = (p, q)
both_done P Q (Err e) p q = tt

-- ---- the header, whose bytes are lent

pub header_put : {A : Type 0} (h : Option A) (f : A → List ℕ) (x : A) (v old tagged new : List ℕ) → h ≡ Some x → v ≡ f x → tagged ≡ old ++ tag 1 → new ≡ tagged ++ blob v
    → new ≡ old ++ joined (maybe_fields blob_fields (option_map f h))
header_put h f x v old tagged new at same one all =
    all ∙ ap (λ (l : List ℕ). tagged ++ blob l) same ∙ ap (λ (l : List ℕ). l ++ blob (f x)) one ∙ append_assoc old (tag 1) (blob (f x))
    ∙ ap (λ (l : List ℕ). old ++ (tag 1 ++ l)) (sym (append-nil (blob (f x))))
    ∙ ap (λ (o : Option _). old ++ joined (maybe_fields blob_fields (option_map f o))) (sym at)

pub header_form : {A : Type 0} (h : Option A) (f : A → List ℕ) (x : A) (v : List ℕ) → h ≡ Some x → v ≡ f x → IsBlob v → IsMaybe IsBlob (option_map f h)
header_form h f x v at same is = subst (λ (o : Option _). IsMaybe IsBlob (option_map f o)) (sym at) (subst IsBlob same is)

-- ---- scripts

abbrev pub IsWritable : Loaded → Type 0
IsWritable l = IsScript (script_part l) × IsCode l.code.code

pub all_scripts : (ls : List Loaded) → AllByRecursion IsWritable ls → AllByRecursion IsScript (script_parts ls)
all_scripts [] all = tt
all_scripts (l ∷ ls) all = (all.0.0, all_scripts ls all.1)

pub all_code : (ls : List Loaded) → AllByRecursion IsWritable ls → AllByRecursion (λ (l : Loaded). IsCode l.code.code) ls
all_code [] all = tt
all_code (l ∷ ls) all = (all.0.1, all_code ls all.1)

-- ---- objects

pub parts_count : (os : List AreaObject) (ts : List (Things Saved)) → length ts ≡ length os → length (object_parts os ts) ≡ length os
parts_count [] ts same = refl
parts_count (o ∷ os) [] same = absurd (omega (arith, same))
parts_count (o ∷ os) (t ∷ ts) same = let rest = parts_count os ts (omega (arith, same)) in omega (arith, rest)

parts_more : (os : List AreaObject) (ts : List (Things Saved)) (i : ℕ) (t : Things Saved) → i < length os → i < length ts → t ≡ get_or ts i t
    → object_parts (take (suc i) os) (take (suc i) ts) ≡ object_parts (take i os) (take i ts) ++ object_with (object_at os i).vars t ∷ []
parts_more [] ts i t ho ht at = absurd (omega arith)
parts_more (o ∷ os) [] i t ho ht at = absurd (omega arith)
parts_more (o ∷ os) (x ∷ ts) zero t ho ht at = ap (λ z. object_with o.vars z ∷ []) (sym at)
parts_more (o ∷ os) (x ∷ ts) (suc i) t ho ht at = ap (λ (l : List _). object_part o x ∷ l) (parts_more os ts i t (omega arith) (omega arith) at)

-- what was put of so many objects
pub record ObjectsArePut (os : List AreaObject) (ts : List (Things Saved)) (first : List ℕ) (i : ℕ) (now : List ℕ) : Type 0 where
  pub put : now ≡ first ++ joined (flat_map object_fields (object_parts (take i os) (take i ts)))
  pub told : AreObjectsOf (take i os) (take i ts) (object_parts (take i os) (take i ts))

pub objects_none : (os : List AreaObject) (ts : List (Things Saved)) (first : List ℕ) → ObjectsArePut os ts first 0 first
objects_none [] [] first = record { put = sym (append-nil first); told = none_kept }
objects_none [] (t ∷ ts) first = record { put = sym (append-nil first); told = none_kept }
objects_none (o ∷ os) [] first = record { put = sym (append-nil first); told = none_kept }
objects_none (o ∷ os) (t ∷ ts) first = record { put = sym (append-nil first); told = none_kept }

pub objects_put : (os : List AreaObject) (ts : List (Things Saved)) (first : List ℕ) (i : ℕ) (t : Things Saved) (vars : List Variable) (old new : List ℕ) → ObjectsArePut os ts first i old
    → new ≡ old ++ joined (object_fields (object_with vars t)) → vars ≡ (object_at os i).vars → things_of (object_with vars t) ≡ t → variables_of (object_with vars t) ≡ vars
    → IsObject (object_with vars t) → IsTrue (has_short_items (object_with vars t)) → i < length os → i < length ts → t ≡ get_or ts i t → ObjectsArePut os ts first (i + 1) new
objects_put os ts first i t vars old new before grown own things variables form short ho ht at =
    let ps = object_parts (take i os) (take i ts) in
    let p = object_with vars t in
    let more : object_parts (take (i + 1) os) (take (i + 1) ts) ≡ ps ++ p ∷ [] =
    ap (λ (k : ℕ). object_parts (take k os) (take k ts)) (add-one i) ∙ parts_more os ts i t ho ht at ∙ ap (λ (v : List Variable). ps ++ object_with v t ∷ []) (sym own) in
    record {
      put = grown ∙ ap (λ (l : List ℕ). l ++ joined (object_fields p)) before.put ∙ append_assoc first (joined (flat_map object_fields ps)) (joined (object_fields p))
          ∙ ap (λ (l : List ℕ). first ++ l) (sym (fields_behind object_fields ps p)) ∙ ap (λ (l : List _). first ++ joined (flat_map object_fields l)) (sym more);
      told = objects_more os ts i t ps (object_parts (take (i + 1) os) (take (i + 1) ts)) p before.told more things (variables ∙ own) form short ho ht at;
    }

pub objects_whole : (os : List AreaObject) (ts : List (Things Saved)) (first : List ℕ) (i : ℕ) (now : List ℕ) → ObjectsArePut os ts first i now → length os ≤ i → length ts ≤ i
    → now ≡ first ++ joined (flat_map object_fields (object_parts os ts))
objects_whole os ts first i now before ho ht =
    before.put ∙ ap (λ (l : List AreaObject). first ++ joined (flat_map object_fields (object_parts l (take i ts)))) (take_all i os ho)
    ∙ ap (λ (l : List (Things Saved)). first ++ joined (flat_map object_fields (object_parts os l))) (take_all i ts ht)

pub objects_told : (os : List AreaObject) (ts : List (Things Saved)) (first : List ℕ) (i : ℕ) (now : List ℕ) → ObjectsArePut os ts first i now → length os ≤ i → length ts ≤ i
    → AreObjectsOf os ts (object_parts os ts)
objects_told os ts first i now before ho ht =
    subst (λ (l : List (Things Saved)). AreObjectsOf os ts (object_parts os l)) (take_all i ts ht)
    (subst (λ (l : List AreaObject). AreObjectsOf os ts (object_parts l (take i ts))) (take_all i os ho)
    (objects_end os ts i (object_parts (take i os) (take i ts)) before.told ho ht))

-- ---- the whole

pub front_put : (header : Option (List ℕ)) (scripts : List Script) (file : List ℕ) (n : Numbers) (old a b c d new : List ℕ) → a ≡ old ++ magic → b ≡ a ++ joined (maybe_fields blob_fields header)
    → c ≡ b ++ joined (list_of script_fields scripts) → d ≡ c ++ blob file → new ≡ d ++ joined (number_row n) → new ≡ old ++ joined (front_fields header scripts file n)
front_put header scripts file n old a b c d new e1 e2 e3 e4 e5 =
    put_then (magic ∷ []) (maybe_fields blob_fields header ++ (list_of script_fields scripts ++ (blob_fields file ++ number_row n))) old a new (put_one old a magic e1)
    (put_then (maybe_fields blob_fields header) (list_of script_fields scripts ++ (blob_fields file ++ number_row n)) a b new e2
    (put_then (list_of script_fields scripts) (blob_fields file ++ number_row n) b c new e3
    (put_then (blob_fields file) (number_row n) c d new (put_one c d (blob file) e4) e5)))

pub back_put : (random : List ℕ) (os : List AreaObject) (ts : List (Things Saved)) (es : List (Entry Saved)) (old a b new : List ℕ) → a ≡ old ++ joined (list_of (number_fields 4) random)
    → b ≡ a ++ joined (list_of object_fields (object_parts os ts)) → new ≡ b ++ joined (list_of entry_fields (map entry_part es)) → new ≡ old ++ joined (back_fields random os ts es)
back_put random os ts es old a b new e1 e2 e3 =
    put_then (list_of (number_fields 4) random) (list_of object_fields (object_parts os ts) ++ list_of entry_fields (map entry_part es)) old a new e1
    (put_then (list_of object_fields (object_parts os ts)) (list_of entry_fields (map entry_part es)) a b new e2 e3)

pub resting_put : (p : Resting) (old now new : List ℕ) → now ≡ old ++ joined (front_fields (resting_parts p).header (script_parts p.scripts.now) p.file.now p.numbers)
    → new ≡ now ++ joined (back_fields p.random.now p.area.now.objects p.things.now p.entries.now) → new ≡ old ++ joined (parts_fields (resting_parts p))
resting_put p old now new e1 e2 = parts_put (resting_parts p) old now new e1 e2
