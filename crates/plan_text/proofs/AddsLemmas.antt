use Rattle.std.proofs.Common.{◌≡◌, ℕ, ◌<◌, Bool, true, false, List, ◌∷◌, length, Option, Some, None, refl, sym, ◌∙◌, subst, arith, length-append}
use Rattle.std.proofs.lemmas.Option.{none-some}
use Rattle.plan_text.specs.Fields.{number_between, parted}
use Rattle.plan_text.specs.Plans.{Adds, one, more, one_more, with_number}
use Rattle.plan_text.specs.Steps.{Took}
use Rattle.nwq_text.specs.Cuts.{cut_at, IsFree, CutParts}
use Rattle.nwq_text.specs.Laws.{cut_parts, cut_free, cut_none}
use Rattle.plan_text.proofs.PlannedLemmas.{between_free}

-- numbers are added by the first field and then by what follows it
abbrev pub AddsBy : List ℕ → List ℕ → Option (List ℕ × List ℕ) → List ℕ → Type 0
AddsBy numbers bytes None after = one_more numbers bytes ≡ Some after
AddsBy numbers bytes (Some p) after = (between : List ℕ) × (one_more numbers p.0 ≡ Some between) × Adds between p.1 after

number_there : (numbers digits : List ℕ) (o : Option ℕ) → number_between 0 4294967295 digits ≡ o → (after : List ℕ) → with_number numbers o ≡ Some after
    → IsFree 32 digits
number_there numbers digits None is after e = absurd (none-some after e)
number_there numbers digits (Some n) is after e = between_free 0 4294967295 digits n is

added_free : (numbers digits after : List ℕ) → one_more numbers digits ≡ Some after → IsFree 32 digits
added_free numbers digits after e = number_there numbers digits (number_between 0 4294967295 digits) refl after e

adds_by : (numbers bytes after : List ℕ) → Adds numbers bytes after → AddsBy numbers bytes (cut_at 32 bytes) after
adds_by numbers bytes after (one n digits a h) =
    subst (λ cut. AddsBy n digits cut a) (sym (cut_none 32 digits (added_free n digits a h))) h
adds_by numbers bytes after (more n digits between rest a h on) =
    subst (λ cut. AddsBy n (parted digits rest) cut a) (sym (cut_free 32 digits rest (added_free n digits between h))) (between, h, on)

adds_cut : (numbers bytes after : List ℕ) (cut : Option (List ℕ × List ℕ)) → cut_at 32 bytes ≡ cut → Adds numbers bytes after → AddsBy numbers bytes cut after
adds_cut numbers bytes after cut is adds = subst (λ c. AddsBy numbers bytes c after) is (adds_by numbers bytes after adds)

-- adding what is left now adds what was to be added first
pub record SameEnd (first all now left : List ℕ) : Type 0 where
  pub forth : (after : List ℕ) → Adds now left after → Adds first all after
  pub back : (after : List ℕ) → Adds first all after → Adds now left after

cut_is : (bytes digits rest : List ℕ) → cut_at 32 bytes ≡ Some (digits, rest) → bytes ≡ parted digits rest
cut_is bytes digits rest e = (subst (CutParts 32 bytes) e (cut_parts 32 bytes)).0

same_between : (a b : List ℕ) (o : Option (List ℕ)) → o ≡ Some a → o ≡ Some b → a ≡ b
same_between a b o x y = let e : Some a ≡ Some b = sym x ∙ y in cc

pub same_more : (first all now left digits rest new : List ℕ) → SameEnd first all now left → cut_at 32 left ≡ Some (digits, rest)
    → one_more now digits ≡ Some new → SameEnd first all new rest
same_more first all now left digits rest new so e h = record {
  forth = λ after a. so.forth after (subst (λ bytes. Adds now bytes after) (sym (cut_is left digits rest e)) (more now digits new rest after h a));
  back = λ after a.
      let by : AddsBy now left (Some (digits, rest)) after = adds_cut now left after (Some (digits, rest)) e (so.back after a)
      in subst (λ b. Adds b rest after) (same_between by.0 new (one_more now digits) by.1 h) by.2;
}

pub refused : (first all now left digits rest : List ℕ) → SameEnd first all now left → cut_at 32 left ≡ Some (digits, rest)
    → ((a : List ℕ) → one_more now digits ≡ Some a → ⊥) → (after : List ℕ) → Adds first all after → ⊥
refused first all now left digits rest so e bad after a =
    let by : AddsBy now left (Some (digits, rest)) after = adds_cut now left after (Some (digits, rest)) e (so.back after a) in bad by.0 by.1

pub last_added : (first all now left new : List ℕ) (took : Bool) → SameEnd first all now left → cut_at 32 left ≡ None
    → Took (λ a. one_more now left ≡ Some a) took new → Took (Adds first all) took new
last_added first all now left new true so e h = so.forth new (one now left new h)
last_added first all now left new false so e bad = λ after a. bad after (adds_cut now left after None e (so.back after a))

pub cut_shorter : (bytes digits rest : List ℕ) → cut_at 32 bytes ≡ Some (digits, rest) → length rest < length bytes
cut_shorter bytes digits rest e =
    subst (λ x. length rest < length x) (sym (cut_is bytes digits rest e)) (omega (arith, length-append digits (32 ∷ rest)))

-- numbers are added in one way
pub one_adds : (numbers bytes a b : List ℕ) → Adds numbers bytes a → Adds numbers bytes b → a ≡ b
one_adds numbers bytes a b (one n digits x h) y =
    same_between x b (one_more n digits) h (adds_cut n digits b None (cut_none 32 digits (added_free n digits x h)) y)
one_adds numbers bytes a b (more n digits between rest x h on) y =
    let by : AddsBy n (parted digits rest) (Some (digits, rest)) b
    = adds_cut n (parted digits rest) b (Some (digits, rest)) (cut_free 32 digits rest (added_free n digits between h)) y
    in one_adds between rest x b on (subst (λ m. Adds m rest b) (same_between by.0 between (one_more n digits) by.1 h) by.2)
