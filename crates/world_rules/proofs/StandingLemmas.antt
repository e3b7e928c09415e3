-- Effects under their stamps, and the stamps under their numbers and hashes.
use Rattle.std.proofs.Common.{◌≡◌, ◌≢◌, ◌<◌, ◌≤◌, ◌+◌, ◌↔◌, ℕ, ℤ, suc, Bool, true, false, cond, List, [], ◌∷◌, ◌++◌, length, Option, None, Some, IsTrue, refl, sym, ap, subst, ◌∙◌, arith}
use Rattle.std.specs.Prelude.{◌==◌, ◌&&◌, nat_lt, if◌then◌else◌, Result, Ok, Err}
use Rattle.std.specs.Result.{is_err, OnOk}
use Rattle.std.specs.Ordering.{int_eq}
use Rattle.std.specs.Bool.{Decides}
use Rattle.std.specs.List.{find}
use Rattle.std.proofs.lemmas.Bool.{false≢true, true≢false, eqb-true, eq-eqb, ltb-true, ltb-false}
use Rattle.std.proofs.lemmas.Bool.Decides.{same_from_decides, Decides-like, Decides-and, Decides-int_eq, Decides-eqb}
use Rattle.nwq_value.specs.Effect.{Effect}
use Rattle.stamped_slots.specs.Stamps.{at, put, without, Rise, AreUnder}
use Rattle.stamped_slots.specs.Firsts.{passes, NoneBefore, IsFirst}
use Rattle.stamped_slots.specs.Index.{is_pair, is_under, IsLeast}
use Rattle.stamped_slots.specs.StampLemmas.{not_same, none_below, none_above, at_other, at_same, put_last, under_last, under_at, under_without, gone_other, gone_same, rise_from}
use Rattle.world_rules.specs.declared.data.Stood.{Stood}
use Rattle.world_rules.specs.Changes.{is_numbered, is_effect, same_effect, same_ints, without_first}
use Rattle.world_rules.specs.Standing.{is_number, stood_in, content_hash, number_key, content_key, has_key, IsIndex, MarksMaybe, AreKept}

-- ---- equal effects

abbrev head_of : ℤ → List ℤ → ℤ
head_of n [] = n
head_of n (m ∷ ms) = m

abbrev tail_of : List ℤ → List ℤ
tail_of [] = []
tail_of (m ∷ ms) = ms

cons_is : (m n : ℤ) (ms ns : List ℤ) → (m ≡ n) × (ms ≡ ns) → m ∷ ms ≡ n ∷ ns
cons_is m n ms ns same = ap (λ (k : ℤ). k ∷ ms) same.0 ∙ ap (λ (ks : List ℤ). n ∷ ks) same.1

ints_decide : (ms ns : List ℤ) → Decides (same_ints ms ns) (ms ≡ ns)
ints_decide [] [] = (λ _. refl, λ _. refl)
ints_decide [] (n ∷ ns) = (λ e. absurd (false≢true e), λ e. absurd (omega (arith, ap length e)))
ints_decide (m ∷ ms) [] = (λ e. absurd (false≢true e), λ e. absurd (omega (arith, ap length e)))
ints_decide (m ∷ ms) (n ∷ ns) =
    Decides-like (int_eq m n && same_ints ms ns) (cons_is m n ms ns) (λ e. (ap (head_of m) e, ap tail_of e))
    (Decides-and (int_eq m n) (same_ints ms ns) (Decides-int_eq m n) (ints_decide ms ns))

effect_is : (e f : Effect) → (e.routine ≡ f.routine) × (e.ints ≡ f.ints) → e ≡ f
effect_is e f same = ap (λ (n : ℕ). record { routine = n; ints = e.ints }) same.0 ∙ ap (λ (ns : List ℤ). record { routine = f.routine; ints = ns }) same.1

effects_decide : (e f : Effect) → Decides (same_effect e f) (e ≡ f)
effects_decide e f =
    Decides-like (same_effect e f) (effect_is e f) (λ is. (ap (λ (x : Effect). x.routine) is, ap (λ (x : Effect). x.ints) is))
    (Decides-and (e.routine == f.routine) (same_ints e.ints f.ints) (Decides-eqb e.routine f.routine) (ints_decide e.ints f.ints))

pub same_test : (r : Bool) (e : Effect) (s : Stood) → (IsTrue r ↔ (e ≡ s.effect)) → r ≡ is_effect e s
same_test r e s told = same_from_decides r (same_effect e s.effect) told (effects_decide e s.effect)

-- equal effects have one hash
same_hash : (e : Effect) (s : Stood) → is_effect e s ≡ true → is_number (content_hash e) (content_key s) ≡ true
same_hash e s is =
    let same : e ≡ s.effect = (effects_decide e s.effect).0 is in
    eq-eqb (content_hash s.effect) (content_hash e) (ap content_hash (sym same))

-- ---- marks

pair_apart : (key stamp k s : ℕ) → s ≢ stamp → is_pair key stamp (k, s) ≡ false
pair_apart key stamp k s other = by (key == k)
  where
    by : (b : Bool) → (b && (stamp == s)) ≡ false
    by true = not_same stamp s (λ same. other (sym same))
    by false = refl

pub marks_twice : (key : Option ℕ) (stamp : ℕ) (there : Bool) (old mid new : List (ℕ × ℕ)) → MarksMaybe key stamp true old mid → MarksMaybe key stamp there mid new → MarksMaybe key stamp there old new
marks_twice None stamp there old mid new first second = second ∙ first
marks_twice (Some key) stamp there old mid new first second = λ k s. second k s ∙ by k s (is_pair key stamp (k, s)) refl
  where
    by : (k s : ℕ) (b : Bool) → is_pair key stamp (k, s) ≡ b → (if b then there else is_under k s mid) ≡ (if b then there else is_under k s old)
    by k s true is = refl
    by k s false is = first k s ∙ ap (λ b. if b then true else is_under k s old) is

-- a stamp under a key, where no other of the two is another one
mark_other : (key : Option ℕ) (stamp k s : ℕ) (there : Bool) (old new : List (ℕ × ℕ)) → MarksMaybe key stamp there old new → s ≢ stamp → is_under k s new ≡ is_under k s old
mark_other None stamp k s there old new marks other = ap (is_under k s) marks
mark_other (Some key) stamp k s there old new marks other = marks k s ∙ ap (λ b. if b then there else is_under k s old) (pair_apart key stamp k s other)

-- under a key or none, where the stamp was under no other
mark_here : (key : Option ℕ) (stamp k : ℕ) (there : Bool) (old new : List (ℕ × ℕ)) → MarksMaybe key stamp there old new
    → (is_number k key ≡ false → is_under k stamp old ≡ false) → is_under k stamp new ≡ (is_number k key && there)
mark_here None stamp k there old new marks lack = ap (is_under k stamp) marks ∙ lack refl
mark_here (Some key) stamp k there old new marks lack = marks k stamp ∙ by (key == k) refl
  where
    by : (b : Bool) → (key == k) ≡ b → (if b && (stamp == stamp) then there else is_under k stamp old) ≡ (b && there)
    by true is = ap (λ b. if b then there else is_under k stamp old) (eq-eqb stamp stamp refl)
    by false is = lack is

and_true : (b : Bool) → (b && true) ≡ b
and_true true = refl
and_true false = refl

and_false : (b : Bool) → (b && false) ≡ false
and_false true = refl
and_false false = refl

module _ (key : Stood → Option ℕ) where
  -- one effect more, under a stamp above all others
  pub index_put : (stamp : ℕ) (x : Stood) (items now : List (ℕ × Stood)) (old new : List (ℕ × ℕ)) → AreUnder stamp items → IsIndex key items old → MarksMaybe (key x) stamp true old new
      → now ≡ items ++ (stamp, x) ∷ [] → IsIndex key now new
  index_put stamp x items now old new under index marks is = subst (λ t. IsIndex key t new) (put_last stamp x items under ∙ sym is) (λ k s. by k s (s == stamp) refl)
    where
      none : (k : ℕ) → is_under k stamp old ≡ false
      none k = index k stamp ∙ ap (has_key key k) (none_above stamp stamp items (omega arith) under)

      by : (k s : ℕ) (b : Bool) → (s == stamp) ≡ b → is_under k s new ≡ has_key key k (at s (put stamp x items))
      by k s true is =
          let same = eqb-true s stamp is in
          subst (λ n. is_under k n new ≡ has_key key k (at n (put stamp x items))) (sym same)
          (mark_here (key x) stamp k true old new marks (λ _. none k) ∙ and_true (is_number k (key x)) ∙ sym (ap (has_key key k) (at_same stamp x items)))
      by k s false is =
          let other : s ≢ stamp = (λ same. let have : (s == stamp) ≡ true = eq-eqb s stamp same in cc) in
          mark_other (key x) stamp k s true old new marks other ∙ index k s ∙ sym (ap (has_key key k) (at_other stamp s x items (λ same. other (sym same))))

  -- the stamp goes from under a key under which it wasn't
  pub index_unmarked : (own : Option ℕ) (stamp : ℕ) (items now : List (ℕ × Stood)) (old new : List (ℕ × ℕ))
      → AreUnder stamp items → IsIndex key items old → MarksMaybe own stamp false old new → now ≡ items
      → IsIndex key now new
  index_unmarked own stamp items now old new under index marks is = subst (λ t. IsIndex key t new) (sym is) (λ k s. by k s (s == stamp) refl)
    where
      none : (k : ℕ) → is_under k stamp old ≡ false
      none k = index k stamp ∙ ap (has_key key k) (none_above stamp stamp items (omega arith) under)

      by : (k s : ℕ) (b : Bool) → (s == stamp) ≡ b → is_under k s new ≡ has_key key k (at s items)
      by k s true is =
          let same = eqb-true s stamp is in
          subst (λ n. is_under k n new ≡ has_key key k (at n items)) (sym same)
          (mark_here own stamp k false old new marks (λ _. none k) ∙ and_false (is_number k own) ∙ sym (ap (has_key key k) (none_above stamp stamp items (omega arith) under)))
      by k s false is =
          let other : s ≢ stamp = (λ same. let have : (s == stamp) ≡ true = eq-eqb s stamp same in cc) in
          mark_other own stamp k s false old new marks other ∙ index k s

  -- an effect is taken out
  pub index_taken : (stamp : ℕ) (x : Stood) (items now : List (ℕ × Stood)) (old new : List (ℕ × ℕ)) → Rise 0 items
      → IsIndex key items old → Some x ≡ at stamp items → MarksMaybe (key x) stamp false old new
      → now ≡ without stamp items → IsIndex key now new
  index_taken stamp x items now old new up index there marks is = subst (λ t. IsIndex key t new) (sym is) (λ k s. by k s (s == stamp) refl)
    where
      here : (k : ℕ) → is_number k (key x) ≡ false → is_under k stamp old ≡ false
      here k lack = index k stamp ∙ sym (ap (has_key key k) there) ∙ lack

      by : (k s : ℕ) (b : Bool) → (s == stamp) ≡ b → is_under k s new ≡ has_key key k (at s (without stamp items))
      by k s true is =
          let same = eqb-true s stamp is in
          subst (λ n. is_under k n new ≡ has_key key k (at n (without stamp items))) (sym same)
          (mark_here (key x) stamp k false old new marks (here k) ∙ and_false (is_number k (key x)) ∙ sym (ap (has_key key k) (gone_same stamp 0 items up)))
      by k s false is =
          let other : s ≢ stamp = (λ same. let have : (s == stamp) ≡ true = eq-eqb s stamp same in cc) in
          mark_other (key x) stamp k s false old new marks other ∙ index k s ∙ sym (ap (has_key key k) (gone_other stamp s items (λ same. other (sym same))))

  -- nothing is there to take out
  pub index_lacks : (stamp : ℕ) (items now : List (ℕ × Stood)) (index : List (ℕ × ℕ)) → Rise 0 items
      → IsIndex key items index → None ≡ at stamp items → now ≡ without stamp items → IsIndex key now index
  index_lacks stamp items now index up is none gone = subst (λ t. IsIndex key t index) (sym gone) (λ k s. is k s ∙ ap (has_key key k) (by s (s == stamp) refl))
    where
      by : (s : ℕ) (b : Bool) → (s == stamp) ≡ b → at s items ≡ at s (without stamp items)
      by s true same =
          subst (λ n. at n items ≡ at n (without stamp items)) (sym (eqb-true s stamp same)) (sym none ∙ sym (gone_same stamp 0 items up))
      by s false other = sym (gone_other stamp s items (λ same. let have : (s == stamp) ≡ true = eq-eqb s stamp (sym same) in cc))

  -- what isn't under its key doesn't pass the test
  pub fails : (test : Stood → Bool) (k s : ℕ) (items : List (ℕ × Stood)) (index : List (ℕ × ℕ))
      → ((x : Stood) → test x ≡ true → is_number k (key x) ≡ true) → IsIndex key items index
      → is_under k s index ≡ false
      → passes test (at s items) ≡ false
  fails test k s items index owns is lack = by (at s items) (sym (is k s) ∙ lack)
    where
      tested : (x : Stood) (b : Bool) → test x ≡ b → is_number k (key x) ≡ false → b ≡ false
      tested x true have lacks = absurd (true≢false (sym (owns x have) ∙ lacks))
      tested x false have lacks = refl

      by : (o : Option Stood) → has_key key k o ≡ false → passes test o ≡ false
      by None lacks = refl
      by (Some x) lacks = tested x (test x) refl lacks

  -- what is under a key is there
  pub stamp_below : (next k s : ℕ) (items : List (ℕ × Stood)) (index : List (ℕ × ℕ)) → AreUnder next items → IsIndex key items index → is_under k s index ≡ true → s < next
  stamp_below next k s items index under is have = by (at s items) refl (sym (is k s) ∙ have)
    where
      by : (o : Option Stood) → at s items ≡ o → has_key key k o ≡ true → s < next
      by None there has = absurd cc
      by (Some x) there has = under_at next s x items under there

pub when_ok : {T E P : Type 0} → (r : Result T E) → false ≡ is_err r → OnOk r P → P
when_ok (Ok x) is there = there
when_ok (Err e) is there = absurd cc

-- nothing stands under a stamp above all others
pub free_stamp : (stamp : ℕ) (items : List (ℕ × Stood)) → AreUnder stamp items → at stamp items ≡ None
free_stamp stamp items under = none_above stamp stamp items (omega arith) under

pub ruleset additions = (index_put, index_unmarked, marks_twice, free_stamp)

-- ---- the first effect of a number

number_passes : (k : ℕ) (o : Option Stood) → has_key number_key k o ≡ passes (is_numbered k) o
number_passes k None = refl
number_passes k (Some x) = refl

pub first_numbered : (k : ℕ) (r : Option ℕ) (items : List (ℕ × Stood)) (numbers : List (ℕ × ℕ)) → IsIndex number_key items numbers → IsLeast k 0 r numbers → IsFirst (is_numbered k) r items
first_numbered k None items numbers index least = λ s. fails number_key (is_numbered k) k s items numbers (λ x have. have) index (least s (omega arith))
first_numbered k (Some stamp) items numbers index least = (
  sym (number_passes k (at stamp items)) ∙ sym (index k stamp) ∙ least.1,
  λ s lt. fails number_key (is_numbered k) k s items numbers (λ x have. have) index (least.2 s (omega arith) lt),
)

-- ---- the first equal effect

module _ (e : Effect) (items : List (ℕ × Stood)) (contents : List (ℕ × ℕ)) (index : IsIndex content_key items contents) where
  unlike : (s : ℕ) → is_under (content_hash e) s contents ≡ false → passes (is_effect e) (at s items) ≡ false
  unlike s lack = fails content_key (is_effect e) (content_hash e) s items contents (same_hash e) index lack

  pub equal_none : (key from : ℕ) → key ≡ content_hash e → NoneBefore (is_effect e) from items → IsLeast key from None contents → IsFirst (is_effect e) None items
  equal_none key from is before least s = by (nat_lt s from) refl
    where
      by : (b : Bool) → nat_lt s from ≡ b → passes (is_effect e) (at s items) ≡ false
      by true lt = before s (ltb-true s from lt)
      by false ge = unlike s (subst (λ k. is_under k s contents ≡ false) is (least s (ltb-false s from ge)))

  -- where the next one isn't equal
  pub equal_next : (key from stamp next : ℕ) → key ≡ content_hash e → NoneBefore (is_effect e) from items
      → IsLeast key from (Some stamp) contents → false ≡ passes (is_effect e) (at stamp items) → next ≡ stamp + 1
      → NoneBefore (is_effect e) next items
  equal_next key from stamp next is before least lack one s lt = by (nat_lt s from) (nat_lt s stamp) refl refl
    where
      by : (b c : Bool) → nat_lt s from ≡ b → nat_lt s stamp ≡ c → passes (is_effect e) (at s items) ≡ false
      by true c low below = before s (ltb-true s from low)
      by false true high below = unlike s (subst (λ k. is_under k s contents ≡ false) is (least.2 s (ltb-false s from high) (ltb-true s stamp below)))
      by false false high above =
          let same : s ≡ stamp = omega (arith, lt, one, ltb-false s stamp above) in
          ap (λ n. passes (is_effect e) (at n items)) same ∙ sym lack

  -- where it is
  pub equal_found : (key from stamp : ℕ) → key ≡ content_hash e → NoneBefore (is_effect e) from items → IsLeast key from (Some stamp) contents → true ≡ passes (is_effect e) (at stamp items)
      → IsFirst (is_effect e) (Some stamp) items
  equal_found key from stamp is before least have = (sym have, λ s lt. by s lt (nat_lt s from) refl)
    where
      by : (s : ℕ) → s < stamp → (b : Bool) → nat_lt s from ≡ b → passes (is_effect e) (at s items) ≡ false
      by s lt true low = before s (ltb-true s from low)
      by s lt false high = unlike s (subst (λ k. is_under k s contents ≡ false) is (least.2 s (ltb-false s from high) lt))

pub none_yet : (test : Stood → Bool) (items : List (ℕ × Stood)) (n : ℕ) → n ≡ 0 → NoneBefore test n items
none_yet test items n zero_is s lt = absurd (omega (arith, lt, zero_is))

pub next_below : (key from stamp next : ℕ) (items : List (ℕ × Stood)) (contents : List (ℕ × ℕ)) → AreUnder next items
    → IsIndex content_key items contents → IsLeast key from (Some stamp) contents → (from ≤ stamp) × (stamp < next)
next_below key from stamp next items contents under index least = (least.0, stamp_below content_key next key stamp items contents under index least.1)

-- ---- what is taken out

-- of the effects in their order, without their stamps
pub record IsTaken (test : Stood → Bool) (found : Option Stood) (now items : List (ℕ × Stood)) : Type 0 where
  pub taken : found ≡ find test (stood_in items)
  pub left : stood_in now ≡ without_first test (stood_in items)

none_taken : (test : Stood → Bool) (low : ℕ) (items : List (ℕ × Stood)) → Rise low items → IsFirst test None items
    → (None ≡ find test (stood_in items)) × (stood_in items ≡ without_first test (stood_in items))
none_taken test low [] up first = (refl, refl)
none_taken test low (e ∷ items) up first = by (test e.1) head (none_taken test (e.0 + 1) items up.1 later)
  where
    head : test e.1 ≡ false
    head = sym (ap (λ b. passes test (if b then Some e.1 else at e.0 items)) (eq-eqb e.0 e.0 refl)) ∙ first e.0

    later : IsFirst test None items
    later s = by_stamp (e.0 == s) refl
      where
        by_stamp : (b : Bool) → (e.0 == s) ≡ b → passes test (at s items) ≡ false
        by_stamp true is = ap (passes test) (none_below s items (rise_from (s + 1) (e.0 + 1) items (omega (arith, eqb-true e.0 s is)) up.1))
        by_stamp false is = sym (ap (λ b. passes test (if b then Some e.1 else at s items)) is) ∙ first s

    by : (b : Bool) → b ≡ false → (None ≡ find test (stood_in items)) × (stood_in items ≡ without_first test (stood_in items))
        → (None ≡ cond b (Some e.1) (find test (stood_in items))) × (e.1 ∷ stood_in items ≡ (if b then stood_in items else e.1 ∷ without_first test (stood_in items)))
    by true lack more = absurd (true≢false lack)
    by false lack more = (more.0, ap (λ t. e.1 ∷ t) more.1)

some_taken : (test : Stood → Bool) (low stamp : ℕ) (items : List (ℕ × Stood)) → Rise low items → IsFirst test (Some stamp) items
    → (at stamp items ≡ find test (stood_in items)) × (stood_in (without stamp items) ≡ without_first test (stood_in items))
some_taken test low stamp [] up first = absurd (true≢false (sym first.0))
some_taken test low stamp (e ∷ items) up first = by (e.0 == stamp) refl (test e.1) refl (λ other. some_taken test (e.0 + 1) stamp items up.1 (later other))
  where
    own : at e.0 (e ∷ items) ≡ Some e.1
    own = ap (λ b. if b then Some e.1 else at e.0 items) (eq-eqb e.0 e.0 refl)

    later : (e.0 == stamp) ≡ false → IsFirst test (Some stamp) items
    later other = (sym (ap (λ b. passes test (if b then Some e.1 else at stamp items)) other) ∙ first.0, λ s lt. by_stamp s lt (e.0 == s) refl)
      where
        by_stamp : (s : ℕ) → s < stamp → (b : Bool) → (e.0 == s) ≡ b → passes test (at s items) ≡ false
        by_stamp s lt true is = ap (passes test) (none_below s items (rise_from (s + 1) (e.0 + 1) items (omega (arith, eqb-true e.0 s is)) up.1))
        by_stamp s lt false is = sym (ap (λ b. passes test (if b then Some e.1 else at s items)) is) ∙ first.1 s lt

    -- the stamp isn't below the first one
    above : (e.0 == stamp) ≡ false → (b : Bool) → nat_lt e.0 stamp ≡ b → e.0 < stamp
    above other true lt = ltb-true e.0 stamp lt
    above other false ge =
        let none : at stamp items ≡ None = none_below stamp items (rise_from (stamp + 1) (e.0 + 1) items (omega (arith, ltb-false e.0 stamp ge)) up.1) in
        let lacks : passes test (at stamp items) ≡ false = ap (passes test) none in
        absurd (true≢false (sym (later other).0 ∙ lacks))

    by : (b : Bool) → (e.0 == stamp) ≡ b → (c : Bool) → test e.1 ≡ c
        → ((e.0 == stamp) ≡ false → (at stamp items ≡ find test (stood_in items)) × (stood_in (without stamp items) ≡ without_first test (stood_in items)))
        → ((if b then Some e.1 else at stamp items) ≡ cond c (Some e.1) (find test (stood_in items)))
        × (stood_in (if b then items else e ∷ without stamp items) ≡ (if c then stood_in items else e.1 ∷ without_first test (stood_in items)))
    by true is true have next = (refl, refl)
    by true is false lack next =
        let here : passes test (at stamp (e ∷ items)) ≡ true = first.0 in
        absurd (true≢false (sym here ∙ ap (λ b. passes test (if b then Some e.1 else at stamp items)) is ∙ lack))
    by false is true have next =
        let lt = above is (nat_lt e.0 stamp) refl in
        absurd (true≢false (sym have ∙ sym (ap (passes test) own) ∙ first.1 e.0 lt))
    by false is false lack next =
        let more = next is in
        (more.0, ap (λ t. e.1 ∷ t) more.1)

pub taken_none : (test : Stood → Bool) (items : List (ℕ × Stood)) → Rise 0 items → IsFirst test None items → IsTaken test None items items
taken_none test items up first = let both = none_taken test 0 items up first in record { taken = both.0; left = both.1 }

pub taken_some : (test : Stood → Bool) (stamp : ℕ) (items now : List (ℕ × Stood)) (found : Option Stood) → Rise 0 items
    → IsFirst test (Some stamp) items → found ≡ at stamp items → now ≡ without stamp items
    → IsTaken test found now items
taken_some test stamp items now found up first is left_is =
    let both = some_taken test 0 stamp items up first in
    record { taken = is ∙ both.0; left = ap stood_in left_is ∙ both.1 }

-- ---- the effects in their order

pub stood_last : (n : ℕ) (x : Stood) (items now : List (ℕ × Stood)) → now ≡ items ++ (n, x) ∷ [] → stood_in now ≡ stood_in items ++ x ∷ []
stood_last n x items now is = ap stood_in is ∙ by items
  where
    by : (items : List (ℕ × Stood)) → stood_in (items ++ (n, x) ∷ []) ≡ stood_in items ++ x ∷ []
    by [] = refl
    by (e ∷ items) = ap (λ t. e.1 ∷ t) (by items)

pub long_stood : (items : List (ℕ × Stood)) → length items ≡ length (stood_in items)
long_stood [] = refl
long_stood (e ∷ items) = ap suc (long_stood items)

pub kept_more : (n more : ℕ) (x : Stood) (items now : List (ℕ × Stood)) (numbers contents : List (ℕ × ℕ))
    → AreUnder n items → now ≡ items ++ (n, x) ∷ [] → more ≡ n + 1 → IsIndex number_key now numbers
    → IsIndex content_key now contents
    → AreKept more now numbers contents
kept_more n more x items now numbers contents under is one by_number by_content = record {
  under = subst (AreUnder more) (sym is) (under_last n more x items (omega (arith, one)) under);
  by_number = by_number;
  by_content = by_content;
}

pub kept_same : (n : ℕ) (items now : List (ℕ × Stood)) (numbers contents : List (ℕ × ℕ)) → AreUnder n items
    → now ≡ items → IsIndex number_key now numbers → IsIndex content_key now contents → AreKept n now numbers contents
kept_same n items now numbers contents under is by_number by_content = record {
  under = subst (AreUnder n) (sym is) under;
  by_number = by_number;
  by_content = by_content;
}

pub kept_less : (next stamp : ℕ) (items now : List (ℕ × Stood)) (numbers contents : List (ℕ × ℕ)) → AreUnder next items
    → now ≡ without stamp items → IsIndex number_key now numbers → IsIndex content_key now contents
    → AreKept next now numbers contents
kept_less next stamp items now numbers contents under is by_number by_content = record {
  under = subst (AreUnder next) (sym is) (under_without next stamp items under);
  by_number = by_number;
  by_content = by_content;
}

pub kept_none : (next : ℕ) (items : List (ℕ × Stood)) (numbers contents : List (ℕ × ℕ)) → items ≡ [] → numbers ≡ [] → contents ≡ [] → AreKept next items numbers contents
kept_none next items numbers contents none p q =
    subst (λ t. AreKept next t numbers contents) (sym none) (subst (λ t. AreKept next [] t contents) (sym p) (subst (λ t. AreKept next [] [] t) (sym q) (record {
      under = tt;
      by_number = λ k s. refl;
      by_content = λ k s. refl;
    })))

pub ruleset pushes = (kept_more, kept_same, stood_last)

pub ruleset searches = (none_yet, equal_none, equal_next, equal_found, next_below)

pub none_left_is : (all : List Stood) → length all ≡ 0 → [] ≡ all
none_left_is [] none = refl
none_left_is (s ∷ all) none = absurd (omega (arith, none))
