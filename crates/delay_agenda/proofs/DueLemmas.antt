-- What is to run at one time, as entries.
use Rattle.std.proofs.Common.{◌≡◌, ◌≢◌, ◌∷◌, [], ℕ, suc, Bool, true, false, List, length, Option, Some, None, slice_get, refl, sym, ap, ◌∙◌, arith}
use Rattle.std.specs.Prelude.{nat_eq, nat_lt, if◌then◌else◌, MatchBool}
use Rattle.std.proofs.lemmas.Bool.Decides.{nat_tests}
use Rattle.std.proofs.lemmas.Bool.{eqb-true, eq-eqb}
use Rattle.stamped_slots.specs.Stamps.{at, put, without}
use Rattle.delay_agenda.specs.declared.entry.Entry.{Entry}
use Rattle.delay_agenda.specs.declared.entry.Kind.{Kind}
use Rattle.delay_agenda.specs.Order.{comes_before, put_entry, HasNone}
use Rattle.delay_agenda.specs.Queues.{IsQueue, IsHead, entries_of, numbered, without_number}

before_is : {X : Type 0} (due m n : ℕ) (kind : Kind X) → comes_before due m (record { due = due; number = n; kind = kind }) ≡ nat_lt m n
before_is due m n kind = let over : nat_lt due due ≡ false = grind (arith, nat_tests) in let same : nat_eq due due ≡ true = eq-eqb due due refl in rw (over, same) refl

-- one more
pub entries_put : {X : Type 0} (due number : ℕ) (kind : Kind X) (kinds : List (ℕ × Kind X))
    → entries_of due (put number kind kinds) ≡ put_entry (record { due = due; number = number; kind = kind }) (entries_of due kinds)
entries_put due number kind [] = refl
entries_put due number kind (k ∷ kinds) =
    by (nat_lt k.0 number) (entries_put due number kind kinds)
    ∙ ap (λ (b : Bool). if b then record { due = due; number = k.0; kind = k.1 } ∷ put_entry
    (record { due = due; number = number; kind = kind })
    (entries_of due kinds) else record { due = due; number = number; kind = kind } ∷ record {
      due = due;
      number = k.0;
      kind = k.1;
    } ∷ entries_of due kinds)
    (sym (before_is due k.0 number kind))
  where
    by : (b : Bool) → entries_of due (put number kind kinds) ≡ put_entry (record { due = due; number = number; kind = kind }) (entries_of due kinds)
        → entries_of due (if b then k ∷ put number kind kinds else (number, kind) ∷ k ∷ kinds)
        ≡ (if b then record { due = due; number = k.0; kind = k.1 } ∷ put_entry
        (record { due = due; number = number; kind = kind })
        (entries_of due kinds) else record { due = due; number = number; kind = kind } ∷ record {
          due = due;
          number = k.0;
          kind = k.1;
        } ∷ entries_of due kinds)
    by true more = ap (λ t. record { due = due; number = k.0; kind = k.1 } ∷ t) more
    by false more = refl

not_eq : (m n : ℕ) → m ≢ n → nat_eq m n ≡ false
not_eq m n other = by (nat_eq m n) refl
  where
    by : (b : Bool) → nat_eq m n ≡ b → b ≡ false
    by true e = absurd (other (eqb-true m n e))
    by false e = refl

pub none_at : {X : Type 0} (due number : ℕ) (kinds : List (ℕ × Kind X)) → HasNone number (entries_of due kinds) → at number kinds ≡ None
none_at due number [] none = refl
none_at due number (k ∷ kinds) none = rw (not_eq k.0 number none.0) (none_at due number kinds none.1)

-- a queue that isn't empty has the time of its entries
pub own_due : {X : Type 0} (own due : ℕ) (kinds : List (ℕ × Kind X)) → IsQueue due (entries_of own kinds) → own ≡ due
own_due own due [] queue = absurd (queue.filled refl)
own_due own due (k ∷ kinds) queue = queue.together.0

pub head_of : {X : Type 0} (due number : ℕ) (kind : Kind X) (kinds : List (ℕ × Kind X)) → slice_get kinds 0 ≡ Some (number, kind) → IsHead due number (entries_of due kinds)
head_of due number kind [] is = absurd cc
head_of due number kind (k ∷ kinds) is = let same : k ≡ (number, kind) = cc in (refl, ap (λ t. t.0) same)

pub none_of : {X : Type 0} (due : ℕ) (kinds : List (ℕ × Kind X)) → kinds ≡ [] → entries_of due kinds ≡ []
none_of due kinds is = ap (entries_of due) is

pub long_of : {X : Type 0} (due : ℕ) (kinds : List (ℕ × Kind X)) → length kinds ≡ length (entries_of due kinds)
long_of due [] = refl
long_of due (k ∷ kinds) = ap suc (long_of due kinds)

-- what is there under a number, as an entry
abbrev pub entry_in : {X : Type 0} → ℕ → ℕ → Option (Kind X) → Option (Entry X)
entry_in due number None = None
entry_in due number (Some kind) = Some (record { due = due; number = number; kind = kind })

pub numbered_is : {X : Type 0} (due number : ℕ) (kinds : List (ℕ × Kind X)) → entry_in due number (at number kinds) ≡ numbered number (entries_of due kinds)
numbered_is due number [] = refl
numbered_is due number (k ∷ kinds) = by (nat_eq k.0 number) refl (numbered_is due number kinds)
  where
    by : (b : Bool) → nat_eq k.0 number ≡ b → entry_in due number (at number kinds) ≡ numbered number (entries_of due kinds)
        → entry_in due number (if b then Some k.1 else at number kinds) ≡ (if b then Some (record { due = due; number = k.0; kind = k.1 }) else numbered number (entries_of due kinds))
    by true e more = ap (λ n. Some (record { due = due; number = n; kind = k.1 })) (sym (eqb-true k.0 number e))
    by false e more = more

pub without_is : {X : Type 0} (due number : ℕ) (kinds : List (ℕ × Kind X)) → entries_of due (without number kinds) ≡ without_number number (entries_of due kinds)
without_is due number [] = refl
without_is due number (k ∷ kinds) = by (nat_eq k.0 number) (without_is due number kinds)
  where
    by : (b : Bool) → entries_of due (without number kinds) ≡ without_number number (entries_of due kinds)
        → entries_of due (if b then kinds else k ∷ without number kinds)
        ≡ (if b then entries_of due kinds else record { due = due; number = k.0; kind = k.1 } ∷ without_number number
        (entries_of due kinds))
    by true more = refl
    by false more = ap (λ t. record { due = due; number = k.0; kind = k.1 } ∷ t) more

pub head_numbered : {X : Type 0} (due number : ℕ) (es : List (Entry X)) → IsHead due number es → numbered number es ≡ slice_get es 0
head_numbered due number [] head = absurd head
head_numbered due number (e ∷ es) head = rw (eq-eqb e.number number head.1) refl

-- the entry of a queue of one
pub only_of : {X : Type 0} (due number : ℕ) (es : List (Entry X)) (e : Entry X) → length es ≡ 1 → IsHead due number es → Some e ≡ numbered number es → es ≡ e ∷ []
only_of due number [] e one head is = absurd (omega (arith, one))
only_of due number (x ∷ []) e one head is =
    let same : Some e ≡ Some x = is ∙ head_numbered due number (x ∷ []) head in
    let equal : e ≡ x = cc in ap (λ t. t ∷ []) (sym equal)
only_of due number (x ∷ y ∷ es) e one head is = absurd (omega (arith, one))

pub none_only : {X : Type 0} (due number : ℕ) (es : List (Entry X)) → length es ≡ 1 → IsHead due number es → None ≢ numbered number es
none_only due number [] one head is = absurd (omega (arith, one))
none_only due number (x ∷ es) one head is = let same : None ≡ Some x = is ∙ head_numbered due number (x ∷ es) head in cc

pub one_filled : {X : Type 0} (es : List (Entry X)) → length es ≡ 1 → es ≢ []
one_filled es one is = omega (arith, one, ap length is)

pub ruleset only_facts = (only_of, none_only, one_filled)

pub count_is : {X : Type 0} (n due : ℕ) (kinds : List (ℕ × Kind X)) (es : List (Entry X)) → n ≡ length kinds → entries_of due kinds ≡ es → n ≡ 1
    → length es ≡ 1
count_is n due kinds es is view one = ap length (sym view) ∙ sym (long_of due kinds) ∙ sym is ∙ one

pub empty_test : {X : Type 0} (n : ℕ) (es : List (Entry X)) → n ≡ length es → MatchBool (nat_eq n 0) (es ≡ []) (es ≢ [])
empty_test n [] is = let test : nat_eq n 0 ≡ true = eq-eqb n 0 is in rw test refl
empty_test n (x ∷ es) is = let test : nat_eq n 0 ≡ false = not_eq n 0 (λ none. omega (arith, is, none)) in rw test (λ same. cc)
