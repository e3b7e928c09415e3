use Rattle.std.proofs.Common.{◌≡◌, ℕ, ◌+◌, ◌⊎◌, inl, inr, ◌==◌, Bool, true, false, List, [], ◌∷◌, ◌++◌, Option, Some, None, Result, Ok, Err, refl, sym, ap, ◌∙◌, subst, arith}
use Rattle.std.proofs.lemmas.Option.{same_Some}
use Rattle.nwq_text.specs.Escape.{EscapesApart}
use Rattle.plan_text.specs.declared.plan.Line.{Line}
use Rattle.plan_text.specs.declared.plan.Line.TheVariants.{Event, Start, Free}
use Rattle.plan_text.specs.Fields.{parted}
use Rattle.plan_text.specs.Words.{Word, Limit, Entries, Until, Random, Script, Binary, Event as EventWord, Start as StartWord, head_of, spelled}
use Rattle.plan_text.specs.Plans.{Draft, IsEvent, IsStart, IsFreeStart, Spells, ReadsBehind, Reads, empty, remark, says, Baffles, Comes, whole, more, stops, Gives, headed, headless, IsHeaded}
use Rattle.plan_text.specs.Plans.{heading, OnePlan, nothing, plan_of}
use Rattle.plan_text.proofs.AddsLemmas.{one_adds}
use Rattle.plan_text.proofs.PlannedLemmas.{FourFields, event_four, start_four, free_two, same_four, same_two, apart}
use Rattle.plan_text.proofs.WordLemmas.{head_spelled}

same_spelled : EscapesApart → (tag text other : List ℕ) → Spells tag text → Spells tag other → text ≡ other
same_spelled apart tag text other x y = apart text other x.textual.each y.textual.each (sym x.is ∙ y.is)

same_text : EscapesApart → (tag tag2 text other : List ℕ) → tag ≡ tag2 → Spells tag text → Spells tag2 other → text ≡ other
same_text apart tag tag2 text other same x y = same_spelled apart tag2 text other (subst (λ t. Spells t text) same x) y

one_event : EscapesApart → (rest : List ℕ) (a b : Line) → IsEvent rest a → IsEvent rest b → a ≡ b
one_event apart rest a b x y =
    let same = same_four (x.at, x.number, x.label, x.tag) (y.at, y.number, y.label, y.tag) (sym (event_four rest a x) ∙ event_four rest b y)
    in let text = same_text apart x.tag y.tag x.text y.text (ap (λ (p : FourFields). p.3) same) x.tags y.tags
    in x.is ∙ ap (λ (p : FourFields). Event p.0 p.1 p.2 x.text) same ∙ ap (λ t. Event y.at y.number y.label t) text ∙ sym y.is

one_aimed : EscapesApart → (rest : List ℕ) (a b : Line) → IsStart rest a → IsStart rest b → a ≡ b
one_aimed apart rest a b x y =
    let same = same_four (x.at, x.number, x.name, x.tag) (y.at, y.number, y.name, y.tag) (sym (start_four rest a x) ∙ start_four rest b y)
    in let text = same_text apart x.tag y.tag x.text y.text (ap (λ (p : FourFields). p.3) same) x.tags y.tags
    in x.is ∙ ap (λ (p : FourFields). Start p.0 p.1 p.2 x.text) same ∙ ap (λ t. Start y.at y.number y.name t) text ∙ sym y.is

one_free : (rest : List ℕ) (a b : Line) → IsFreeStart rest a → IsFreeStart rest b → a ≡ b
one_free rest a b x y =
    let same = same_two (x.at, x.name) (y.at, y.name) (sym (free_two rest a x) ∙ free_two rest b y)
    in x.is ∙ ap (λ (p : ℕ × List ℕ). Free p.0 p.1) same ∙ sym y.is

one_start : EscapesApart → (rest : List ℕ) (a b : Line) → IsStart rest a ⊎ IsFreeStart rest a → IsStart rest b ⊎ IsFreeStart rest b → a ≡ b
one_start esc rest a b (inl x) (inl y) = one_aimed esc rest a b x y
one_start esc rest a b (inl x) (inr y) = absurd (apart rest a b x y)
one_start esc rest a b (inr x) (inl y) = absurd (apart rest b a y x)
one_start esc rest a b (inr x) (inr y) = one_free rest a b x y

one_number : (set : ℕ → Draft) (o : Option ℕ) (a b : Draft) (n m : ℕ) → o ≡ Some n → o ≡ Some m → a ≡ set n → b ≡ set m → a ≡ b
one_number set o a b n m x y e f = e ∙ ap set (same_Some n m (sym x ∙ y)) ∙ sym f

one_behind : EscapesApart → (w : Word) (d : Draft) (rest : List ℕ) (a b : Draft) → ReadsBehind w d rest a → ReadsBehind w d rest b → a ≡ b
one_behind esc Limit d rest a b x y = one_number (λ n. record d { limit = Some n }) _ a b x.0 y.0 x.1 y.1 x.2 y.2
one_behind esc Entries d rest a b x y = one_number (λ n. record d { entries = Some n }) _ a b x.0 y.0 x.1 y.1 x.2 y.2
one_behind esc Until d rest a b x y = one_number (λ n. record d { until = Some n }) _ a b x.0 y.0 x.1 y.1 x.2 y.2
one_behind esc Random d rest a b x y = x.2 ∙ ap (λ ns. record d { random = ns }) (one_adds d.random rest x.0 y.0 x.1 y.1) ∙ sym y.2
one_behind esc Script d rest a b x y = x.is ∙ sym y.is
one_behind esc Binary d rest a b x y = x.is ∙ sym y.is
one_behind esc EventWord d rest a b x y =
    x.2.is ∙ ap (λ l. record d { events = d.events ++ l ∷ [] }) (one_event esc rest x.0 y.0 x.1 y.1) ∙ sym y.2.is
one_behind esc StartWord d rest a b x y =
    x.2.is ∙ ap (λ l. record d { events = d.events ++ l ∷ [] }) (one_start esc rest x.0 y.0 x.1 y.1) ∙ sym y.2.is

-- ---- one reading of a line

abbrev passes : List ℕ → Bool
passes [] = true
passes (b ∷ line) = b == 59

-- what a line is read as, by whether it is passed over and by its word
abbrev ReadsBy : Bool → Option (Word × List ℕ) → Draft → Draft → Type 0
ReadsBy true head d after = after ≡ d
ReadsBy false None d after = ⊥
ReadsBy false (Some p) d after = ReadsBehind p.0 d p.1 after

passes_spelled : (w : Word) (rest : List ℕ) → passes (parted (spelled w) rest) ≡ false
passes_spelled Limit rest = refl
passes_spelled Entries rest = refl
passes_spelled Until rest = refl
passes_spelled Random rest = refl
passes_spelled Script rest = refl
passes_spelled Binary rest = refl
passes_spelled EventWord rest = refl
passes_spelled StartWord rest = refl

reads_by : (d : Draft) (line : List ℕ) (after : Draft) → Reads d line after → ReadsBy (passes line) (head_of line) d after
reads_by d line after empty = refl
reads_by d line after (remark text) = refl
reads_by d line after (says w rest a behind) =
    subst (λ p. ReadsBy p (head_of (parted (spelled w) rest)) d a) (sym (passes_spelled w rest))
    (subst (λ h. ReadsBy false h d a) (sym (head_spelled w rest)) behind)

one_by : EscapesApart → (d a b : Draft) (p : Bool) (head : Option (Word × List ℕ)) → ReadsBy p head d a → ReadsBy p head d b → a ≡ b
one_by esc d a b true head x y = x ∙ sym y
one_by esc d a b false None x y = absurd x
one_by esc d a b false (Some p) x y = one_behind esc p.0 d p.1 a b x y

one_reading : EscapesApart → (d a b : Draft) (line : List ℕ) → Reads d line a → Reads d line b → a ≡ b
one_reading esc d a b line x y = one_by esc d a b (passes line) (head_of line) (reads_by d line a x) (reads_by d line b y)

-- ---- one end of all lines

abbrev ComesBy : ℕ → Draft → List (List ℕ) → Result Draft ℕ → Type 0
ComesBy n d [] end = end ≡ Ok d
ComesBy n d (line ∷ lines) end =
    ((next : Draft) × Reads d line next × Comes (n + 1) next lines end) ⊎ (Baffles d line × (end ≡ Err n))

comes_by : (n : ℕ) (d : Draft) (lines : List (List ℕ)) (end : Result Draft ℕ) → Comes n d lines end → ComesBy n d lines end
comes_by n d lines end (whole m e) = refl
comes_by n d lines end (more m e next line rest f r on) = inl (next, r, on)
comes_by n d lines end (stops m e line rest baffles) = inr (baffles, refl)

one_step : EscapesApart → (n : ℕ) (d : Draft) (line : List ℕ) (lines : List (List ℕ)) (e f : Result Draft ℕ)
    → ((next : Draft) → Comes (n + 1) next lines e → Comes (n + 1) next lines f → e ≡ f)
    → ComesBy n d (line ∷ lines) e → ComesBy n d (line ∷ lines) f → e ≡ f
one_step esc n d line lines e f same (inl x) (inl y) =
    same x.0 x.2 (subst (λ m. Comes (n + 1) m lines f) (one_reading esc d y.0 x.0 line y.1 x.1) y.2)
one_step esc n d line lines e f same (inl x) (inr y) = absurd (y.0 x.0 x.1)
one_step esc n d line lines e f same (inr x) (inl y) = absurd (x.0 y.0 y.1)
one_step esc n d line lines e f same (inr x) (inr y) = x.1 ∙ sym y.1

one_end : EscapesApart → (n : ℕ) (d : Draft) (lines : List (List ℕ)) (e f : Result Draft ℕ) → Comes n d lines e → Comes n d lines f → e ≡ f
one_end esc n d [] e f x y = comes_by n d [] e x ∙ sym (comes_by n d [] f y)
one_end esc n d (line ∷ lines) e f x y =
    one_step esc n d line lines e f (λ next. one_end esc (n + 1) next lines e f) (comes_by n d (line ∷ lines) e x) (comes_by n d (line ∷ lines) f y)

-- ---- one plan

same_head : (a b : List ℕ) (xs ys : List (List ℕ)) → a ∷ xs ≡ b ∷ ys → (a ≡ b) × (xs ≡ ys)
same_head a b xs ys e = (cc, cc)

abbrev last_byte : List ℕ → ℕ
last_byte (n ∷ w ∷ q ∷ s ∷ p ∷ l ∷ a ∷ m ∷ t ∷ b ∷ rest) = b
last_byte _ = 0

same_version : (v w : ℕ) → heading v ≡ heading w → v ≡ w
same_version v w e = let same : 48 + v ≡ 48 + w = ap last_byte e in omega arith

one_given : EscapesApart → (bytes : List ℕ) (e f : Result Draft ℕ) → Gives bytes e → Gives bytes f → e ≡ f
one_given esc bytes e f (headed v a x known l c) (headed w b y also m k) =
    let same = same_head (heading v) (heading w) a b (sym l ∙ m)
    in let version = same_version v w same.0
    in one_end esc 2 (nothing w) b x y (subst (λ u. Comes 2 (nothing u) b x) version (subst (λ ls. Comes 2 (nothing v) ls x) same.1 c)) k
one_given esc bytes e f (headed v a x known l c) (headless other) = absurd (other (subst IsHeaded (sym l) (v, known, refl)))
one_given esc bytes e f (headless other) (headed w b y also m k) = absurd (other (subst IsHeaded (sym m) (w, also, refl)))
one_given esc bytes e f (headless other) (headless another) = refl

same_draft : (c d : Draft) → ◌≡◌ {A = Result Draft ℕ} (Ok c) (Ok d) → c ≡ d
same_draft c d e = cc

same_line : (n m : ℕ) → ◌≡◌ {A = Result Draft ℕ} (Err n) (Err m) → n ≡ m
same_line n m e = cc

not_same : (d : Draft) (n : ℕ) → ◌≡◌ {A = Result Draft ℕ} (Ok d) (Err n) → ⊥
not_same d n e = cc

pub one_plan : EscapesApart → OnePlan
one_plan esc = record {
  one_plan = λ bytes a b x y.
      x.2 ∙ ap plan_of (same_draft x.0 y.0 (one_given esc bytes (Ok x.0) (Ok y.0) x.1 y.1)) ∙ sym y.2;
  one_fault = λ bytes n m x y. same_line n m (one_given esc bytes (Err n) (Err m) x y);
  not_both = λ bytes a n x y. not_same x.0 n (one_given esc bytes (Ok x.0) (Err n) x.1 y);
}
