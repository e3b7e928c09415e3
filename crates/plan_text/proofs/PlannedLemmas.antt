use Rattle.std.proofs.Common.{◌≡◌, ◌≢◌, ℕ, ◌<◌, ◌≤◌, Bool, true, false, nat_lt, nat_le, cond, ◌&&◌, codes, List, [], ◌∷◌, ◌++◌, length, take, Option, Some, None, refl, sym, ap, ◌∙◌, subst, arith}
use Rattle.std.proofs.Common.{◌⊎◌, inl, inr, Result, Ok, Err, IfOk}
use Rattle.std.proofs.lemmas.List.{take_all}
use Rattle.std.proofs.lemmas.Bool.Decides.{nat_tests}
use Rattle.std.proofs.lemmas.Option.{none-some, cond_some}
use Rattle.std.specs.List.{list_all}
use Rattle.std.specs.Option.{option_map}
use Rattle.std.proofs.lemmas.Slice.Eq.{bytes_eq-Decides}
use Rattle.std.specs.Str.{all_ascii_digits, bytes_eq}
use Rattle.std.specs.Str.Parse.{digits_value}
use Rattle.nwq_text.specs.Escape.{ReadsText}
use Rattle.nwq_text.specs.Number.{number_of, is_number}
use Rattle.plan_text.specs.declared.plan.Line.{Line}
use Rattle.plan_text.specs.declared.plan.Line.TheVariants.{Event, Start, Free}
use Rattle.plan_text.specs.Fields.{parted, number_between, within, is_label, is_spaceless}
use Rattle.plan_text.specs.Plans.{Draft, IsEvent, IsStart, IsFreeStart, Lists, is_listed}
use Rattle.plan_text.specs.Steps.{Found, number_field, numbered, four_fields, with_due, with_nth, with_name, dash_fields, dashed, behind_dash}
use Rattle.nwq_text.specs.Cuts.{cut_at, IsFree, CutParts}
use Rattle.nwq_text.specs.Laws.{cut_parts, cut_free}
use Rattle.nwq_text.specs.Names.{is_script_name, is_script_byte}

-- ---- fields have no spaces

both : (a b : Bool) → (a && b) ≡ true → (a ≡ true) × (b ≡ true)
both true b h = (refl, h)
both false b h = absurd cc

all_free : (test : ℕ → Bool) → ((b : ℕ) → test b ≡ true → b ≢ 32) → (bytes : List ℕ) → list_all test bytes ≡ true → IsFree 32 bytes
all_free test other [] h = tt
all_free test other (b ∷ bs) h =
    let parts = both (test b) (list_all test bs) h in (other b parts.0, all_free test other bs parts.1)

script_byte_other : (b : ℕ) → is_script_byte b ≡ true → b ≢ 32
script_byte_other b h = grind (arith, nat_tests)

spaceless_other : (b : ℕ) → is_spaceless b ≡ true → b ≢ 32
spaceless_other b h = grind (arith, nat_tests)

digits_free : (digits : List ℕ) → all_ascii_digits digits ≡ true → IsFree 32 digits
digits_free [] h = tt
digits_free (b ∷ bs) h =
    let parts = both _ (all_ascii_digits bs) h
    in ((let other : b ≢ 32 = grind (arith, nat_tests, parts.0) in other), digits_free bs parts.1)

record SizedName (test : ℕ → Bool) (name : List ℕ) : Type 0 where
  few : length name ≤ 16
  each : list_all test name ≡ true

sized : (test : ℕ → Bool) (name : List ℕ) (a b : Bool) → (b ≡ true → length name ≤ 16) → (a && b && list_all test name) ≡ true → SizedName test name
sized test name true true few h = record { few = few refl; each = h }
sized test name true false few h = absurd cc
sized test name false b few h = absurd cc

few_of : (n : ℕ) → nat_le n 16 ≡ true → n ≤ 16
few_of n h = grind (arith, nat_tests)

script_name : (name : List ℕ) → is_script_name name ≡ true → SizedName is_script_byte name
unfolding is_script_name
script_name name h = sized is_script_byte name (nat_lt 0 (length name)) (nat_le (length name) 16) (few_of (length name)) h

label : (name : List ℕ) → is_label name ≡ true → SizedName is_spaceless name
unfolding is_label
label name h = sized is_spaceless name (nat_lt 0 (length name)) (nat_le (length name) 16) (few_of (length name)) h

script_free : (name : List ℕ) → is_script_name name ≡ true → IsFree 32 name
script_free name h = all_free is_script_byte script_byte_other name (script_name name h).each

label_free : (name : List ℕ) → is_label name ≡ true → IsFree 32 name
label_free name h = all_free is_spaceless spaceless_other name (label name h).each

short : (name : List ℕ) → length name ≤ 16 → take 8192 name ≡ name
short name few = take_all 8192 name (omega arith)

digital : (a b c : Bool) → (a && b && c) ≡ true → c ≡ true
digital true true c h = h
digital true false c h = absurd cc
digital false b c h = absurd cc

number_free : (digits : List ℕ) (n : ℕ) → number_of digits ≡ Some n → IsFree 32 digits
unfolding number_of
number_free digits n h =
    digits_free digits (digital (nat_lt 0 (length digits)) (nat_le (length digits) 10) (all_ascii_digits digits) (cond_some (is_number digits) (digits_value 10 digits) n h).0)

within_some : (low high : ℕ) (o : Option ℕ) (n : ℕ) → within low high o ≡ Some n → o ≡ Some n
within_some low high None n h = h
within_some low high (Some m) n h = ap Some (cond_some _ m n h).1

pub between_free : (low high : ℕ) (digits : List ℕ) (n : ℕ) → number_between low high digits ≡ Some n → IsFree 32 digits
between_free low high digits n h = number_free digits n (within_some low high (number_of digits) n h)

-- ---- numbers in front

number_at : (high : ℕ) (digits rest : List ℕ) (n : ℕ) → number_between 0 high digits ≡ Some n → number_field high (digits ++ 32 ∷ rest) ≡ Some (n, rest)
unfolding number_field
number_at high digits rest n h =
    ap (numbered high) (cut_free 32 digits rest (between_free 0 high digits n h)) ∙ ap (option_map (λ m. (m, rest))) h

record Numbered (high : ℕ) (bytes : List ℕ) (p : ℕ × List ℕ) : Type 0 where
  digits : List ℕ
  spells : bytes ≡ digits ++ 32 ∷ p.1
  is : number_between 0 high digits ≡ Some p.0

numbered_by : (high : ℕ) (bytes : List ℕ) (q : List ℕ × List ℕ) → bytes ≡ q.0 ++ 32 ∷ q.1 → (o : Option ℕ) → number_between 0 high q.0 ≡ o
    → (p : ℕ × List ℕ) → option_map (λ n. (n, q.1)) o ≡ Some p → Numbered high bytes p
numbered_by high bytes q spells None is p e = absurd (none-some p e)
numbered_by high bytes q spells (Some n) is p e =
    let same : (n, q.1) ≡ p = cc in subst (Numbered high bytes) same (record { digits = q.0; spells = spells; is = is })

numbered_cut : (high : ℕ) (bytes : List ℕ) (cut : Option (List ℕ × List ℕ)) → CutParts 32 bytes cut → (p : ℕ × List ℕ) → numbered high cut ≡ Some p
    → Numbered high bytes p
numbered_cut high bytes None parts p e = absurd (none-some p e)
numbered_cut high bytes (Some q) parts p e = numbered_by high bytes q parts.0 (number_between 0 high q.0) refl p e

number_is : (high : ℕ) (bytes : List ℕ) (p : ℕ × List ℕ) → number_field high bytes ≡ Some p → Numbered high bytes p
unfolding number_field
number_is high bytes p e = numbered_cut high bytes (cut_at 32 bytes) (cut_parts 32 bytes) p e

-- ---- four fields

abbrev pub FourFields : Type 0
FourFields = ℕ × ℕ × List ℕ × List ℕ

record Four (rest : List ℕ) (p : FourFields) : Type 0 where
  due : List ℕ
  nth : List ℕ
  spells : rest ≡ parted due (parted nth (parted p.2 p.3))
  time : number_between 0 4294967295 due ≡ Some p.0
  count : number_between 0 2147483647 nth ≡ Some p.1

four_at : (due nth name tag : List ℕ) (d n : ℕ) → number_between 0 4294967295 due ≡ Some d → number_between 0 2147483647 nth ≡ Some n → IsFree 32 name
    → four_fields (parted due (parted nth (parted name tag))) ≡ Some (d, n, name, tag)
unfolding four_fields
four_at due nth name tag d n time count free =
    ap with_due (number_at 4294967295 due (parted nth (parted name tag)) d time)
    ∙ ap (with_nth d) (number_at 2147483647 nth (parted name tag) n count) ∙ ap (with_name d n) (cut_free 32 name tag free)

four_name : (rest : List ℕ) (a b : ℕ × List ℕ) → Numbered 4294967295 rest a → Numbered 2147483647 a.1 b
    → (cut : Option (List ℕ × List ℕ)) → CutParts 32 b.1 cut → (p : FourFields) → with_name a.0 b.0 cut ≡ Some p → Four rest p
four_name rest a b x y None parts p e = absurd (none-some p e)
four_name rest a b x y (Some q) parts p e =
    let same : (a.0, b.0, q.0, q.1) ≡ p = cc
    in subst (Four rest) same (record {
      due = x.digits;
      nth = y.digits;
      spells = x.spells ∙ ap (λ r. x.digits ++ 32 ∷ r) (y.spells ∙ ap (λ r. y.digits ++ 32 ∷ r) parts.0);
      time = x.is;
      count = y.is;
    })

four_nth : (rest : List ℕ) (a : ℕ × List ℕ) → Numbered 4294967295 rest a → (o : Option (ℕ × List ℕ)) → number_field 2147483647 a.1 ≡ o
    → (p : FourFields) → with_nth a.0 o ≡ Some p → Four rest p
four_nth rest a x None is p e = absurd (none-some p e)
four_nth rest a x (Some b) is p e = four_name rest a b x (number_is 2147483647 a.1 b is) (cut_at 32 b.1) (cut_parts 32 b.1) p e

four_due : (rest : List ℕ) (o : Option (ℕ × List ℕ)) → number_field 4294967295 rest ≡ o → (p : FourFields) → with_due o ≡ Some p → Four rest p
four_due rest None is p e = absurd (none-some p e)
four_due rest (Some a) is p e = four_nth rest a (number_is 4294967295 rest a is) (number_field 2147483647 a.1) refl p e

four_is : (rest : List ℕ) (p : FourFields) → four_fields rest ≡ Some p → Four rest p
unfolding four_fields
four_is rest p e = four_due rest (number_field 4294967295 rest) refl p e

-- ---- events

pub event_four : (rest : List ℕ) (line : Line) (e : IsEvent rest line) → four_fields rest ≡ Some (e.at, e.number, e.label, e.tag)
event_four rest line e = ap four_fields e.spells ∙ four_at e.due e.nth e.label e.tag e.at e.number e.time e.count (label_free e.label e.labels)

pub same_four : (a b : FourFields) → Some a ≡ Some b → a ≡ b
same_four a b e = cc

pub event_none : (rest : List ℕ) → four_fields rest ≡ None → (line : Line) → IsEvent rest line → ⊥
event_none rest none line e = none-some (e.at, e.number, e.label, e.tag) (sym none ∙ event_four rest line e)

pub event_unlabelled : (rest : List ℕ) (p : FourFields) → four_fields rest ≡ Some p → is_label p.2 ≡ false → (line : Line) → IsEvent rest line → ⊥
event_unlabelled rest p is bad line e =
    let same = same_four (e.at, e.number, e.label, e.tag) p (sym (event_four rest line e) ∙ is)
    in let good : true ≡ false = sym e.labels ∙ ap (λ (q : FourFields). is_label q.2) same ∙ bad in cc

pub event_unspelled : (rest : List ℕ) (p : FourFields) → four_fields rest ≡ Some p → ReadsText p.3 None → (line : Line) → IsEvent rest line → ⊥
event_unspelled rest p is bad line e =
    let same = same_four (e.at, e.number, e.label, e.tag) p (sym (event_four rest line e) ∙ is)
    in bad e.text e.tags.textual (sym (ap (λ (q : FourFields). q.3) same) ∙ e.tags.is)

pub event_is : (rest : List ℕ) (p : FourFields) (name text : List ℕ) → four_fields rest ≡ Some p → is_label p.2 ≡ true → name ≡ take 8192 p.2
    → ReadsText p.3 (Some text) → IsEvent rest (Event p.0 p.1 name text)
event_is rest p name text is good same reads =
    let f = four_is rest p is
    in record {
      due = f.due;
      nth = f.nth;
      label = p.2;
      tag = p.3;
      at = p.0;
      number = p.1;
      text = text;
      spells = f.spells;
      time = f.time;
      count = f.count;
      labels = good;
      tags = record { textual = reads.0; is = reads.1 };
      is = ap (λ l. Event p.0 p.1 l text) (same ∙ short p.2 (label p.2 good).few);
    }

-- ---- starts

pub start_four : (rest : List ℕ) (line : Line) (e : IsStart rest line) → four_fields rest ≡ Some (e.at, e.number, e.name, e.tag)
start_four rest line e = ap four_fields e.spells ∙ four_at e.due e.nth e.name e.tag e.at e.number e.time e.count (script_free e.name e.names)

pub start_none : (rest : List ℕ) → four_fields rest ≡ None → (line : Line) → IsStart rest line → ⊥
start_none rest none line e = none-some (e.at, e.number, e.name, e.tag) (sym none ∙ start_four rest line e)

pub start_unnamed : (rest : List ℕ) (p : FourFields) → four_fields rest ≡ Some p → is_script_name p.2 ≡ false → (line : Line) → IsStart rest line → ⊥
start_unnamed rest p is bad line e =
    let same = same_four (e.at, e.number, e.name, e.tag) p (sym (start_four rest line e) ∙ is)
    in let good : true ≡ false = sym e.names ∙ ap (λ (q : FourFields). is_script_name q.2) same ∙ bad in cc

pub start_unspelled : (rest : List ℕ) (p : FourFields) → four_fields rest ≡ Some p → ReadsText p.3 None → (line : Line) → IsStart rest line → ⊥
start_unspelled rest p is bad line e =
    let same = same_four (e.at, e.number, e.name, e.tag) p (sym (start_four rest line e) ∙ is)
    in bad e.text e.tags.textual (sym (ap (λ (q : FourFields). q.3) same) ∙ e.tags.is)

pub start_is : (rest : List ℕ) (p : FourFields) (name text : List ℕ) → four_fields rest ≡ Some p → is_script_name p.2 ≡ true → name ≡ take 8192 p.2
    → ReadsText p.3 (Some text) → IsStart rest (Start p.0 p.1 name text)
start_is rest p name text is good same reads =
    let f = four_is rest p is
    in record {
      due = f.due;
      nth = f.nth;
      name = p.2;
      tag = p.3;
      at = p.0;
      number = p.1;
      text = text;
      spells = f.spells;
      time = f.time;
      count = f.count;
      names = good;
      tags = record { textual = reads.0; is = reads.1 };
      is = ap (λ l. Start p.0 p.1 l text) (same ∙ short p.2 (script_name p.2 good).few);
    }

-- ---- starts for no object

dash_free : IsFree 32 (codes "-")
dash_free = ((λ e. absurd cc), tt)

dash_at : (due name : List ℕ) (d : ℕ) → number_between 0 4294967295 due ≡ Some d → dash_fields (parted due (parted (codes "-") name)) ≡ Some (d, name)
unfolding dash_fields
dash_at due name d time =
    ap dashed (number_at 4294967295 due (parted (codes "-") name) d time) ∙ ap (behind_dash d) (cut_free 32 (codes "-") name dash_free)

pub free_none : (rest : List ℕ) → dash_fields rest ≡ None → (line : Line) → IsFreeStart rest line → ⊥
free_none rest none line e = none-some (e.at, e.name) (sym none ∙ ap dash_fields e.spells ∙ dash_at e.due e.name e.at e.time)

pub same_two : (a b : ℕ × List ℕ) → Some a ≡ Some b → a ≡ b
same_two a b e = cc

pub free_unnamed : (rest : List ℕ) (p : ℕ × List ℕ) → dash_fields rest ≡ Some p → is_script_name p.1 ≡ false → (line : Line) → IsFreeStart rest line → ⊥
free_unnamed rest p is bad line e =
    let same = same_two (e.at, e.name) p (sym (dash_at e.due e.name e.at e.time) ∙ ap dash_fields (sym e.spells) ∙ is)
    in let good : true ≡ false = sym e.names ∙ ap (λ (q : ℕ × List ℕ). is_script_name q.1) same ∙ bad in cc

record Dashed (rest : List ℕ) (p : ℕ × List ℕ) : Type 0 where
  due : List ℕ
  spells : rest ≡ parted due (parted (codes "-") p.1)
  time : number_between 0 4294967295 due ≡ Some p.0

dashed_by : (rest : List ℕ) (a : ℕ × List ℕ) → Numbered 4294967295 rest a → (q : List ℕ × List ℕ) → a.1 ≡ q.0 ++ 32 ∷ q.1 → (t : Bool)
    → bytes_eq q.0 (codes "-") ≡ t → (p : ℕ × List ℕ) → cond t (Some (a.0, q.1)) None ≡ Some p → Dashed rest p
dashed_by rest a x q cuts false is p e = absurd (none-some p e)
dashed_by rest a x q cuts true is p e =
    let same = same_two (a.0, q.1) p e
    in let dash : q.0 ≡ codes "-" = (bytes_eq-Decides q.0 (codes "-")).0 is
    in subst (Dashed rest) same (record {
      due = x.digits;
      spells = x.spells ∙ ap (λ r. x.digits ++ 32 ∷ r) (cuts ∙ ap (λ r. r ++ 32 ∷ q.1) dash);
      time = x.is;
    })

dashed_cut : (rest : List ℕ) (a : ℕ × List ℕ) → Numbered 4294967295 rest a → (cut : Option (List ℕ × List ℕ)) → CutParts 32 a.1 cut
    → (p : ℕ × List ℕ) → behind_dash a.0 cut ≡ Some p → Dashed rest p
dashed_cut rest a x None parts p e = absurd (none-some p e)
dashed_cut rest a x (Some q) parts p e = dashed_by rest a x q parts.0 (bytes_eq q.0 (codes "-")) refl p e

dashed_due : (rest : List ℕ) (o : Option (ℕ × List ℕ)) → number_field 4294967295 rest ≡ o → (p : ℕ × List ℕ) → dashed o ≡ Some p → Dashed rest p
dashed_due rest None is p e = absurd (none-some p e)
dashed_due rest (Some a) is p e = dashed_cut rest a (number_is 4294967295 rest a is) (cut_at 32 a.1) (cut_parts 32 a.1) p e

dash_is : (rest : List ℕ) (p : ℕ × List ℕ) → dash_fields rest ≡ Some p → Dashed rest p
unfolding dash_fields
dash_is rest p e = dashed_due rest (number_field 4294967295 rest) refl p e

pub free_is : (rest : List ℕ) (p : ℕ × List ℕ) (name : List ℕ) → dash_fields rest ≡ Some p → is_script_name p.1 ≡ true → name ≡ take 8192 p.1
    → IsFreeStart rest (Free p.0 name)
free_is rest p name is good same =
    let f = dash_is rest p is
    in record {
      due = f.due;
      name = p.1;
      at = p.0;
      spells = f.spells;
      time = f.time;
      names = good;
      is = ap (λ l. Free p.0 l) (same ∙ short p.1 (script_name p.1 good).few);
    }

-- ---- listed scripts

pub listed : (d after : Draft) (name cut : List ℕ) (binary : Bool) → is_script_name name ≡ true → is_listed name d.scripts ≡ false
    → length d.scripts < 256 → cut ≡ take 8192 name
    → after ≡ record d { scripts = d.scripts ++ (record { name = cut; binary = binary }) ∷ [] } → Lists d (record { name = name; binary = binary }) after
listed d after name cut binary good fresh room is e = record {
  named = good;
  fresh = fresh;
  room = room;
  is = e ∙ ap (λ n. record d { scripts = d.scripts ++ (record { name = n; binary = binary }) ∷ [] }) (is ∙ short name (script_name name good).few);
}

-- ---- both kinds of starts

neither : (P Q : Line → Type 0) → ((l : Line) → P l → ⊥) → ((l : Line) → Q l → ⊥) → (l : Line) → P l ⊎ Q l → ⊥
neither P Q p q l (inl h) = p l h
neither P Q p q l (inr h) = q l h

pub either : {E : Type 0} (P Q : Line → Type 0) → ((l : Line) → Q l → ⊥) → (r : Result (Option Line) E) → IfOk r (Found P) → IfOk r (Found (λ l. P l ⊎ Q l))
either P Q q (Ok None) h = neither P Q h q
either P Q q (Ok (Some l)) h = inl h
either P Q q (Err e) h = tt

pub free_two : (rest : List ℕ) (line : Line) (e : IsFreeStart rest line) → dash_fields rest ≡ Some (e.at, e.name)
free_two rest line e = ap dash_fields e.spells ∙ dash_at e.due e.name e.at e.time

dash_number : (name : List ℕ) → number_field 2147483647 (parted (codes "-") name) ≡ None
unfolding number_field cut_at number_of
dash_number name = refl

four_dash : (due name : List ℕ) (d : ℕ) → number_between 0 4294967295 due ≡ Some d → four_fields (parted due (parted (codes "-") name)) ≡ None
unfolding four_fields
four_dash due name d time = ap with_due (number_at 4294967295 due (parted (codes "-") name) d time) ∙ ap (with_nth d) (dash_number name)

-- no line is a start for an object and one for none
pub apart : (rest : List ℕ) (a b : Line) → IsStart rest a → IsFreeStart rest b → ⊥
apart rest a b x y =
    none-some (x.at, x.number, x.name, x.tag) (sym (four_dash y.due y.name y.at y.time) ∙ ap four_fields (sym y.spells) ∙ start_four rest a x)
