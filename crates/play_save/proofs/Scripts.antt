-- Scripts that were checked, one by one.
use Rattle.std.proofs.Common.{◌≡◌, ◌<◌, ◌≤◌, ◌⊎◌, inl, inr, ℕ, zero, suc, ◌+◌, min, List, [], ◌∷◌, ◌++◌, length, take, drop, get_or, sym, ap, ◌∙◌, subst, add-one, arith}
use Rattle.std.proofs.lemmas.Bool.{cases_lt}
use Rattle.std.specs.List.{AllByRecursion}
use Rattle.nwq_value.specs.Limits.{script_limit}
use Rattle.nwq_value.specs.Engine.{EngineTable}
use Rattle.state_format.specs.declared.parts.Script.{Script}
use Rattle.ncs_machine.specs.declared.scripts.Loaded.{Loaded}
use Rattle.stack_check.specs.Checked.{kept_table}
use Rattle.play_save.specs.declared.fault.StateFault.{StateFault}
use Rattle.play_save.specs.declared.fault.StateFault.TheVariants as fault
use Rattle.play_save.specs.Rules.{IsHeaderOf, IsSound}
use Rattle.play_save.specs.Breaking.{AreScriptsOf, AreSound, Breaks, IsPreparedFor, IsScriptOf, KeepsScripts}
use Rattle.play_save.specs.declared.prepare.Prepared.{Prepared}
use Rattle.state_format.specs.declared.parts.Parts.{Parts}
use Rattle.play_save.proofs.Lists.{take_whole}

scripts_end : (table : EngineTable) (parts : List Script) (ls : List Loaded) (part : Script) (l : Loaded) → AreScriptsOf table parts ls → IsScriptOf table part l
    → AreScriptsOf table (parts ++ part ∷ []) (ls ++ l ∷ [])
scripts_end table [] [] part l are is = (is, tt)
scripts_end table [] (x ∷ ls) part l are is = absurd are
scripts_end table (p ∷ parts) [] part l are is = absurd are
scripts_end table (p ∷ parts) (x ∷ ls) part l are is = (are.0, scripts_end table parts ls part l are.1 is)

take_more : {A : Type 0} (xs : List A) (i : ℕ) (x : A) → i < length xs → x ≡ get_or xs i x → take (suc i) xs ≡ take i xs ++ x ∷ []
take_more [] i x h e = absurd (omega arith)
take_more (y ∷ ys) zero x h e = ap (λ z. z ∷ []) (sym e)
take_more (y ∷ ys) (suc i) x h e = ap (λ (l : List _). y ∷ l) (take_more ys i x (omega arith) e)

-- one script more
pub scripts_more : (table : EngineTable) (parts : List Script) (i : ℕ) (part : Script) (l : Loaded) (old new : List Loaded) → AreScriptsOf table (take i parts) old
    → new ≡ old ++ l ∷ [] → IsScriptOf table part l → i < length parts → part ≡ get_or parts i part → AreScriptsOf table (take (i + 1) parts) new
scripts_more table parts i part l old new before grown is h at =
    subst (λ k. AreScriptsOf table (take k parts) new) (sym (add-one i))
    (subst (λ ps. AreScriptsOf table ps new) (sym (take_more parts i part h at))
    (subst (AreScriptsOf table (take i parts ++ part ∷ [])) (sym grown) (scripts_end table (take i parts) old part l before is)))

-- ---- scripts that are kept, and others

scripts_sound : (table : EngineTable) (parts : List Script) (ls : List Loaded) → AreScriptsOf table parts ls → AreSound table parts
scripts_sound table [] [] are = tt
scripts_sound table [] (l ∷ ls) are = absurd are
scripts_sound table (p ∷ parts) [] are = absurd are
scripts_sound table (p ∷ parts) (l ∷ ls) are =
    (record { ops = l.code.code; file = are.0.checked.file; stacked = (kept_table l.code, are.0.checked.meets) }, scripts_sound table parts ls are.1)

all_both : {A : Type 0} (P : A → Type 0) (n : ℕ) (xs : List A) → AllByRecursion P (take n xs) → AllByRecursion P (drop n xs) → AllByRecursion P xs
all_both P zero xs front back = back
all_both P (suc n) [] front back = tt
all_both P (suc n) (x ∷ xs) front back = (front.0, all_both P n xs front.1 back)

all_front : {A : Type 0} (P : A → Type 0) (n : ℕ) (xs : List A) → AllByRecursion P xs → AllByRecursion P (take n xs)
all_front P zero xs all = tt
all_front P (suc n) [] all = tt
all_front P (suc n) (x ∷ xs) all = (all.0, all_front P n xs all.1)

all_back : {A : Type 0} (P : A → Type 0) (n : ℕ) (xs : List A) → AllByRecursion P xs → AllByRecursion P (drop n xs)
all_back P zero xs all = all
all_back P (suc n) [] all = tt
all_back P (suc n) (x ∷ xs) all = all_back P n xs all.1

take_least : {A : Type 0} (n m : ℕ) (xs : List A) → n ≡ min (length xs) m → take n xs ≡ take m xs
take_least n m xs is = by_size (cases_lt m (length xs))
  where
    by_size : (m < length xs) ⊎ (length xs ≤ m) → take n xs ≡ take m xs
    by_size (inl more) = let same : n ≡ m = omega (arith, is, more) in ap (λ (k : ℕ). take k xs) same
    by_size (inr all) = let same : length xs ≤ n = omega (arith, is, all) in take_whole n xs same ∙ sym (take_whole m xs all)

-- a refusal for want of less
breaks_more : (n : ℕ) (Less More : Type 0) (e : StateFault) → (More → Less) → Breaks n Less e → Breaks n More e
breaks_more n Less More (fault.Place at) less b = b
breaks_more n Less More (fault.Unfit m) less b = (b.0, λ more. b.1 (less more))
breaks_more n Less More fault.NoMemory less b = tt

pub first_broken : (table : EngineTable) (parts first : List Script) (n : ℕ) (e : StateFault) → first ≡ take n parts → Breaks 2 (AreSound table first) e → Breaks 2 (AreSound table parts) e
first_broken table parts first n e is =
    breaks_more 2 (AreSound table first) (AreSound table parts) e (λ all. subst (AreSound table) (sym is) (all_front (λ (x : Script). IsSound table x.code) n parts all))

pub others_broken : (table : EngineTable) (parts others : List Script) (n : ℕ) (e : StateFault) → others ≡ drop n parts → Breaks 2 (AreSound table others) e → Breaks 2 (AreSound table parts) e
others_broken table parts others n e is =
    breaks_more 2 (AreSound table others) (AreSound table parts) e (λ all. subst (AreSound table) (sym is) (all_back (λ (x : Script). IsSound table x.code) n parts all))

pub scripts_kept : (table : EngineTable) (parts first others : List Script) (ls : List Loaded) (n : ℕ) → n ≡ min (length parts) script_limit → first ≡ take n parts → others ≡ drop n parts
    → AreScriptsOf table first ls → AreSound table others → KeepsScripts table parts ls
scripts_kept table parts first others ls n least front back are sound = record {
  sound = all_both (λ (x : Script). IsSound table x.code) n parts (subst (AreSound table) front (scripts_sound table first ls are)) (subst (AreSound table) back sound);
  kept = subst (λ (ps : List Script). AreScriptsOf table ps ls) (front ∙ take_least n script_limit parts least) are;
}

-- one script more that is well stacked
sound_end : (table : EngineTable) (parts : List Script) (part : Script) → AreSound table parts → IsSound table part.code → AreSound table (parts ++ part ∷ [])
sound_end table [] part before is = (is, tt)
sound_end table (p ∷ parts) part before is = (before.0, sound_end table parts part before.1 is)

pub sound_more : (table : EngineTable) (parts : List Script) (i : ℕ) (part : Script) → AreSound table (take i parts) → IsSound table part.code → i < length parts → part ≡ get_or parts i part
    → AreSound table (take (i + 1) parts)
sound_more table parts i part before is h at =
    subst (λ k. AreSound table (take k parts)) (sym (add-one i)) (subst (AreSound table) (sym (take_more parts i part h at)) (sound_end table (take i parts) part before is))

-- ---- all of them, where they are no more than a play may have

pub record HoldsScripts (s : Parts) (p : Prepared) : Type 0 where
  pub header : IsHeaderOf s.header p.table
  pub scripts : AreScriptsOf p.table s.scripts p.scripts

pub holds_scripts : (s : Parts) (p : Prepared) → IsPreparedFor s p → length s.scripts ≤ script_limit → HoldsScripts s p
holds_scripts s p is few = record {
  header = is.header;
  scripts = subst (λ (ps : List Script). AreScriptsOf p.table ps p.scripts) (take_whole script_limit s.scripts few) is.scripts.kept;
}
