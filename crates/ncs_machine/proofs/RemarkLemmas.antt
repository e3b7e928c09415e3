-- The places behind the calls under way.
use Rattle.std.proofs.Common.{arith, ◌≡◌, ◌≤◌, ◌<◌, ◌+◌, ◌-◌, ◌++◌, ◌∷◌, ℕ, suc, zero, List, [], length, map, take, reverse, Option, Some, None, slice_get, sym, ap, ◌∙◌, refl, subst}
use Rattle.std.specs.List.{flat_map}
use Rattle.std.proofs.lemmas.List.{get_or-reverse, length-reverse, length_push, take-take, take_all, take_at}
use Rattle.std.proofs.lemmas.List.Concat.{flat_map-append}
use Rattle.std.proofs.lemmas.Option.{none-some, slice_get-get_or}
use Rattle.std.specs.Prelude.{IfSome}
use Rattle.saved_state.specs.declared.saved.Saved.{Saved}
use Rattle.machine_rules.specs.Frames.{Frame}
use Rattle.machine_rules.specs.Machine.{State}
use Rattle.world_rules.specs.World.{World}
use Rattle.play_remarks.specs.declared.Ending.TheVariants as why
use Rattle.play_remarks.specs.declared.Remark.{Remark}
use Rattle.play_remarks.specs.declared.Spot.{Spot}
use Rattle.ncs_machine.specs.declared.entry.Ran.{Ran}
use Rattle.ncs_machine.specs.declared.entry.Ran.TheVariants.{Ended, Divide, Limit, NoMemory}
use Rattle.ncs_machine.specs.Remarks.{Begun, IsRemark, MayRemark, WhereStopped, returns_of, spot_of, under_way, waits_for}

-- ---- the first of a list

pub none_more : {A : Type 0} (n : ℕ) (xs : List A) (x : A) → length xs ≤ n → n ≤ length xs → take n (xs ++ x ∷ []) ≡ xs
none_more n xs x under over = take_at xs (x ∷ []) n (omega arith)

pub one_more : {A : Type 0} (n : ℕ) (xs : List A) (x : A) → length xs < n → take n (xs ++ x ∷ []) ≡ xs ++ x ∷ []
one_more n xs x less = let more = length_push xs x in take_all n (xs ++ x ∷ []) (omega arith)

pub ruleset put_lemmas = (none_more, one_more)

pub few_taken : {A : Type 0} (n : ℕ) (xs : List A) → length (take n xs) ≤ n
few_taken zero xs = omega arith
few_taken (suc n) [] = omega arith
few_taken (suc n) (x ∷ xs) = let h = few_taken n xs in omega arith

pub few_are : {A : Type 0} (n : ℕ) (xs ys : List A) → xs ≡ take n ys → length xs ≤ n
few_are n xs ys h = subst (λ xs. length xs ≤ n) (sym h) (few_taken n ys)

taken_twice : {A : Type 0} (n : ℕ) (xs ys : List A) → take n (take n xs ++ ys) ≡ take n (xs ++ ys)
taken_twice zero xs ys = refl
taken_twice (suc n) [] ys = refl
taken_twice (suc n) (x ∷ xs) ys = ap (λ zs. x ∷ zs) (taken_twice n xs ys)

joined : {A : Type 0} (xs ys zs : List A) → (xs ++ ys) ++ zs ≡ xs ++ (ys ++ zs)
joined [] ys zs = refl
joined (x ∷ xs) ys zs = ap (λ zs. x ∷ zs) (joined xs ys zs)

nothing_more : {A : Type 0} (xs : List A) → xs ++ [] ≡ xs
nothing_more [] = refl
nothing_more (x ∷ xs) = ap (λ xs. x ∷ xs) (nothing_more xs)

-- one part and then another
pub both_put : {A : Type 0} (n : ℕ) (old xs ys now new : List A) → now ≡ take n (old ++ xs) → new ≡ take n (now ++ ys) → new ≡ take n (old ++ (xs ++ ys))
both_put n old xs ys now new first then =
    then ∙ ap (λ zs. take n (zs ++ ys)) first ∙ taken_twice n (old ++ xs) ys ∙ ap (take n) (joined old xs ys)

pub nothing_put : {A : Type 0} (n : ℕ) (old : List A) → length old ≤ n → old ≡ take n (old ++ [])
nothing_put n old few = sym (ap (take n) (nothing_more old) ∙ take_all n old few)

-- ---- a script's own calls

taken_next : (i : ℕ) (xs : List ℕ) (f : ℕ → Spot) (x : ℕ) → slice_get xs i ≡ Some x → take (suc i) (map f xs) ≡ take i (map f xs) ++ f x ∷ []
taken_next zero [] f x h = absurd (none-some x h)
taken_next zero (y ∷ xs) f x h = ap (λ o. some_of f y o ∷ []) h
  where
    some_of : (ℕ → Spot) → ℕ → Option ℕ → Spot
    some_of f d None = f d
    some_of f d (Some x) = f x
taken_next (suc i) [] f x h = absurd (none-some x h)
taken_next (suc i) (y ∷ xs) f x h = ap (λ ys. f y ∷ ys) (taken_next i xs f x h)

none_left : (i : ℕ) (xs : List ℕ) (f : ℕ → Spot) → slice_get xs i ≡ None → take i (map f xs) ≡ map f xs
none_left zero [] f h = refl
none_left zero (x ∷ xs) f h = absurd (none-some x (sym h))
none_left (suc i) [] f h = refl
none_left (suc i) (x ∷ xs) f h = ap (λ ys. f x ∷ ys) (none_left i xs f h)

no_more_taken : {A : Type 0} (n m : ℕ) (xs ys : List A) → n ≤ m → take n (xs ++ take m ys) ≡ take n (xs ++ ys)
no_more_taken zero m xs ys less = refl
no_more_taken (suc n) m [] ys less = take-take (suc n) m ys less
no_more_taken (suc n) m (x ∷ xs) ys less = ap (λ zs. x ∷ zs) (no_more_taken n m xs ys (omega arith))

pub one_more_return : (n i : ℕ) (f : Frame) (old now new : List Spot) (place : ℕ) → slice_get f.calls i ≡ Some place → now ≡ take n (old ++ take i (returns_of f))
    → new ≡ take n (now ++ record { script = f.script; place = place } ∷ []) → new ≡ take n (old ++ take (i + 1) (returns_of f))
one_more_return n i f old now new place lies first then =
    both_put n old (take i (returns_of f)) (record { script = f.script; place = place } ∷ []) now new first then
    ∙ ap (λ zs. take n (old ++ zs)) (sym (taken_next i f.calls (λ place. record { script = f.script; place = place }) place lies))
    ∙ ap (λ k. take n (old ++ take k (returns_of f))) next
  where
    next : suc i ≡ i + 1
    next = omega arith

pub all_returns : (n i : ℕ) (f : Frame) (old now : List Spot) → slice_get f.calls i ≡ None → now ≡ take n (old ++ take i (returns_of f)) → now ≡ take n (old ++ returns_of f)
all_returns n i f old now none is = is ∙ ap (λ zs. take n (old ++ zs)) (none_left i f.calls (λ place. record { script = f.script; place = place }) none)

pub as_many_returns : (n i : ℕ) (f : Frame) (old now : List Spot) → n ≤ i → now ≡ take n (old ++ take i (returns_of f)) → now ≡ take n (old ++ returns_of f)
as_many_returns n i f old now most is = is ∙ no_more_taken n i old (returns_of f) most

-- ---- scripts that wait

pub waiting_count : {A : Type 0} (xs : List A) → length (reverse xs) ≡ length xs
waiting_count xs = length-reverse xs

pub back_lies : {A : Type 0} (xs : List A) (i : ℕ) → i < length xs → slice_get xs (length xs - 1 - i) ≡ slice_get (reverse xs) i
back_lies [] i less = absurd (omega (arith, less))
back_lies (x ∷ xs) i less =
    slice_get-get_or (x ∷ xs) (length (x ∷ xs) - 1 - i) x (omega (arith, less)) ∙ sym (ap Some (get_or-reverse (x ∷ xs) i x less))
    ∙ sym (slice_get-get_or (reverse (x ∷ xs)) i x (subst (λ n. i < n) (sym (length-reverse (x ∷ xs))) less))

pub ruleset waiting_lies = (waiting_count, back_lies)

frame_taken : (i : ℕ) (fs : List Frame) (f : Frame) → slice_get fs i ≡ Some f → take (suc i) fs ≡ take i fs ++ f ∷ []
frame_taken zero [] f h = absurd (none-some f h)
frame_taken zero (g ∷ fs) f h = ap (λ o. some_of g o ∷ []) h
  where
    some_of : Frame → Option Frame → Frame
    some_of d None = d
    some_of d (Some f) = f
frame_taken (suc i) [] f h = absurd (none-some f h)
frame_taken (suc i) (g ∷ fs) f h = ap (λ gs. g ∷ gs) (frame_taken i fs f h)

waits_next : (i : ℕ) (fs : List Frame) (f : Frame) → slice_get fs i ≡ Some f → flat_map waits_for (take i fs) ++ waits_for f ≡ flat_map waits_for (take (i + 1) fs)
waits_next i fs f lies =
    sym (ap (λ k. flat_map waits_for (take k fs)) next ∙ ap (flat_map waits_for) (frame_taken i fs f lies) ∙ flat_map-append waits_for (take i fs) (f ∷ [])
    ∙ ap (λ zs. flat_map waits_for (take i fs) ++ zs) (nothing_more (waits_for f)))
  where
    next : i + 1 ≡ suc i
    next = omega arith

pub one_more_waits : (n i : ℕ) (fs : List Frame) (f : Frame) (old now first then : List Spot) → slice_get fs i ≡ Some f
    → now ≡ take n (old ++ flat_map waits_for (take i fs)) → first ≡ take n (now ++ spot_of f ∷ []) → then ≡ take n (first ++ returns_of f)
    → then ≡ take n (old ++ flat_map waits_for (take (i + 1) fs))
one_more_waits n i fs f old now first then lies is a b =
    both_put n old (flat_map waits_for (take i fs)) (waits_for f) now then is (both_put n now (spot_of f ∷ []) (returns_of f) first then a b)
    ∙ ap (λ zs. take n (old ++ zs)) (waits_next i fs f lies)

pub all_wait : (n i : ℕ) (fs : List Frame) (old now : List Spot) → length fs ≤ i → now ≡ take n (old ++ flat_map waits_for (take i fs)) → now ≡ take n (old ++ flat_map waits_for fs)
all_wait n i fs old now most is = is ∙ ap (λ gs. take n (old ++ flat_map waits_for gs)) (take_all i fs most)

pub all_put : (n : ℕ) (f g : Frame) (waiting : List Frame) (old first now : List Spot) → g ≡ f → old ≡ [] → first ≡ take n (old ++ returns_of g)
    → now ≡ take n (first ++ flat_map waits_for waiting) → now ≡ take n (under_way f waiting)
all_put n f g waiting old first now same none a b =
    both_put n old (returns_of g) (flat_map waits_for waiting) first now a b
    ∙ ap (λ zs. take n (zs ++ (returns_of g ++ flat_map waits_for waiting))) none ∙ ap (λ g. take n (under_way g waiting)) same

-- ---- a remark of a run's last state

pub remark_is : (answer : Ran) (x y : Begun) (a b : State (World Saved)) (o : Option Remark) → x ≡ y → WhereStopped answer (a ≡ b)
    → IfSome o (λ r. MayRemark answer x a (Some r)) → IfSome o (λ r. MayRemark answer y b (Some r))
remark_is answer x y a b None first last h = h
remark_is Ended x y a b (Some r) first last h = h
remark_is Divide x y a b (Some r) first last h = subst (λ z. IsRemark why.Divide z b r) first (subst (λ s. IsRemark why.Divide x s r) last h)
remark_is Limit x y a b (Some r) first last h = subst (λ z. IsRemark why.Limit z b r) first (subst (λ s. IsRemark why.Limit x s r) last h)
remark_is NoMemory x y a b (Some r) first last h = h
