-- How many Turns objects have, after one more and after one was cancelled.
use Rattle.std.proofs.Common.{◌≡◌, ◌≤◌, ◌+◌, ℕ, suc, Bool, true, false, List, refl, sym, ap, ◌∙◌, arith}
use Rattle.std.specs.Prelude.{nat_eq, if◌then◌else◌}
use Rattle.std.proofs.lemmas.Bool.{eqb-true, eqb-false, ne_eqb}
use Rattle.delay_agenda.specs.declared.entry.Entry.{Entry}
use Rattle.delay_agenda.specs.declared.entry.Kind.TheVariants.{Turn}
use Rattle.delay_agenda.specs.Order.{put_entry}
use Rattle.delay_agenda.specs.Waiting.{turn_count, without_turns}
use Rattle.delay_agenda.specs.Laws.{PutCounts, CancelCounts}

-- each object has one Turn at most, and those from a number on have none
pub record AreTurning (first : ℕ) (es : List (Entry ℕ)) : Type 0 where
  pub one : (object : ℕ) → turn_count object es ≤ 1
  pub none : (object : ℕ) → first ≤ object → turn_count object es ≡ 0

more_if : (b : Bool) (first object count : ℕ) → nat_eq first object ≡ b → count ≤ 1 → (first ≤ object → count ≡ 0) → (if b then suc count else count) ≤ 1
more_if true first object count is most none = let same : first ≡ object = eqb-true first object is in omega (arith, same, none (omega (arith, same)))
more_if false first object count is most none = most

pub one_more : PutCounts ℕ → (first due number : ℕ) (es now : List (Entry ℕ)) → AreTurning first es
    → now ≡ put_entry (record { due = due; number = number; kind = Turn first }) es → AreTurning (first + 1) now
one_more counts first due number es now h is =
    let e : Entry ℕ = record { due = due; number = number; kind = Turn first } in
    record {
      one = λ object.
          let sum = ap (turn_count object) is ∙ counts object e es in
          let most = more_if (nat_eq first object) first object (turn_count object es) refl (h.one object) (h.none object) in
          omega (arith, sum, most);
      none = λ object above.
          let apart : nat_eq first object ≡ false = ne_eqb first object (λ same. omega (arith, same, above)) in
          ap (turn_count object) is ∙ counts object e es ∙ ap (λ (b : Bool). if b then suc (turn_count object es) else turn_count object es) apart ∙ h.none object (omega (arith, above));
    }

less_if : (b : Bool) (object other : ℕ) (es : List (Entry ℕ)) → CancelCounts ℕ → nat_eq object other ≡ b → turn_count other es ≤ 1 → turn_count other (without_turns object es) ≤ 1
less_if true object other es counts is most =
    let same : object ≡ other = eqb-true object other is in
    let none = ap (λ o. turn_count o (without_turns object es)) (sym same) ∙ (counts object es).0 in
    omega (arith, none)
less_if false object other es counts is most =
    omega (arith, most, (counts object es).1 other (λ same. eqb-false object other is (sym same)))

pub one_less : CancelCounts ℕ → (object : ℕ) (es now : List (Entry ℕ)) → ((other : ℕ) → turn_count other es ≤ 1) → now ≡ without_turns object es → (other : ℕ) → turn_count other now ≤ 1
one_less counts object es now most is other =
    let less = less_if (nat_eq object other) object other es counts refl (most other) in
    omega (arith, less, ap (turn_count other) is)
