-- Effects that are found among those of an object.
use Rattle.std.proofs.Common.{◌≡◌, ◌≢◌, ◌≤◌, ℕ, ℤ, pos, negsuc, zero, suc, Bool, true, false, cond, List, [], ◌∷◌, length, Option, None, Some, slice_get, refl, sym, ap, ◌∙◌, arith}
use Rattle.std.specs.Prelude.{◌||◌, if◌then◌else◌}
use Rattle.std.specs.List.{list_any, find}
use Rattle.std.proofs.lemmas.Bool.Decides.{nat_tests}
use Rattle.nwq_value.specs.Effect.{Effect}
use Rattle.world_rules.specs.declared.data.Stood.{Stood}
use Rattle.world_rules.specs.declared.data.Things.{Things}
use Rattle.world_rules.specs.declared.data.Told.TheVariants as line
use Rattle.world_rules.specs.World.{World, count, is_valid, effects_of, effects_in}
use Rattle.world_rules.specs.Changes.{told, changed_at, is_effect, is_numbered, with_effects, without_first}
use Rattle.world_rules.specs.Rows.{applied, removed}
use Rattle.world_rules.specs.Turns.{expired, unapply}

-- ---- the first of a list that passes a test

some_found : {A : Type 0} (test : A → Bool) (x : A) (xs : List A) → Some x ≡ find test xs → list_any test xs ≡ true
some_found test x [] is = absurd cc
some_found test x (y ∷ xs) is = by (test y) is (some_found test x xs)
  where
    by : (b : Bool) → Some x ≡ cond b (Some y) (find test xs) → (Some x ≡ find test xs → list_any test xs ≡ true) → (b || list_any test xs) ≡ true
    by true is more = refl
    by false is more = more is

none_found : {A : Type 0} (test : A → Bool) (xs : List A) → None ≡ find test xs → (list_any test xs ≡ false) × (without_first test xs ≡ xs)
none_found test [] is = (refl, refl)
none_found test (y ∷ xs) is = by (test y) is (none_found test xs)
  where
    by : (b : Bool) → None ≡ cond b (Some y) (find test xs) → (None ≡ find test xs → (list_any test xs ≡ false) × (without_first test xs ≡ xs))
        → ((b || list_any test xs) ≡ false) × ((if b then xs else y ∷ without_first test xs) ≡ y ∷ xs)
    by true is more = absurd cc
    by false is more = let both = more is in (both.0, ap (λ t. y ∷ t) both.1)

-- ---- what is left of a world

same_at : {X : Type 0} (i : ℕ) (things : List (Things X)) → changed_at i (λ t. record t { effects = effects_in (slice_get things i) }) things ≡ things
same_at i [] = refl
same_at zero (t ∷ things) = refl
same_at (suc i) (t ∷ things) = ap (λ ts. t ∷ ts) (same_at i things)

same_effects : {X : Type 0} (o : ℕ) (w : World X) → with_effects o (effects_of o w) w ≡ w
same_effects zero w = refl
same_effects (suc i) w = ap (λ things. record w { things = things }) (same_at i w.things)

chosen : {X : Type 0} (b : Bool) (v w : World X) → b ≡ true → (if b then v else w) ≡ v
chosen true v w is = refl
chosen false v w is = absurd cc

passed_over : {X : Type 0} (b : Bool) (v w : World X) → b ≡ false → (if b then v else w) ≡ w
passed_over true v w is = absurd cc
passed_over false v w is = refl

pub removed_some : {X : Type 0} → (o : ℕ) (e : Effect) (s : Stood) (w : World X) → Some s ≡ find (is_effect e) (effects_of o w) →
    removed o e w ≡ told o (line.Remove e) (with_effects o (without_first (is_effect e) (effects_of o w)) w)
removed_some o e s w is =
    chosen (list_any (is_effect e) (effects_of o w)) (told o (line.Remove e) (with_effects o (without_first (is_effect e) (effects_of o w)) w)) w
    (some_found (is_effect e) s (effects_of o w) is)

pub removed_none : {X : Type 0} → (o : ℕ) (e : Effect) (w : World X) → None ≡ find (is_effect e) (effects_of o w) → removed o e w ≡ with_effects o (without_first (is_effect e) (effects_of o w)) w
removed_none o e w is =
    let none = none_found (is_effect e) (effects_of o w) is in
    passed_over (list_any (is_effect e) (effects_of o w)) (told o (line.Remove e) (with_effects o (without_first (is_effect e) (effects_of o w)) w)) w none.0
    ∙ sym (ap (λ es. with_effects o es w) none.1 ∙ same_effects o w)

pub expired_some : {X : Type 0} → (o number : ℕ) (s : Stood) (w : World X) → Some s ≡ find (is_numbered number) (effects_of o w) →
    unapply o number w ≡ told o (line.Expire s.effect) (with_effects o (without_first (is_numbered number) (effects_of o w)) w)
expired_some o number s w is = ap (λ (found : Option Stood). expired o number found w) (sym is)

pub expired_none : {X : Type 0} → (o number : ℕ) (w : World X) → None ≡ find (is_numbered number) (effects_of o w)
    → unapply o number w ≡ with_effects o (without_first (is_numbered number) (effects_of o w)) w
expired_none o number w is =
    let none = none_found (is_numbered number) (effects_of o w) is in
    ap (λ (found : Option Stood). expired o number found w) (sym is) ∙ sym (ap (λ es. with_effects o es w) none.1 ∙ same_effects o w)

past_end : {A : Type 0} → (xs : List A) (i : ℕ) → length xs ≤ i → slice_get xs i ≡ None
past_end [] i le = refl
past_end (x ∷ xs) zero le = absurd (omega (arith, le))
past_end (x ∷ xs) (suc i) le = past_end xs i (omega (arith, le))

-- a number without an object has no effects
none_past : {X : Type 0} → (o : ℕ) (w : World X) → length w.things ≡ count w → is_valid o w ≡ false → effects_of o w ≡ []
none_past zero w counted missing = refl
none_past (suc i) w counted missing = ap effects_in (past_end w.things i (grind (arith, nat_tests, counted, missing)))

pub none_without_object : {X : Type 0} → (o : ℕ) (e : Effect) (w : World X) → length w.things ≡ count w → is_valid o w ≡ false → removed o e w ≡ w
none_without_object o e w counted missing =
    ap (λ (es : List Stood). if list_any (is_effect e) es then told o (line.Remove e) (with_effects o (without_first (is_effect e) es) w) else w) (none_past o w counted missing)

pub ruleset removals = (removed_some, removed_none, none_without_object)

pub ruleset expirations = (expired_some, expired_none)

-- no other duration applies anything
pub other_duration : {X : Type 0} → (n : ℤ) (o : ℕ) (e : Effect) (ms : ℤ) (w : World X) → n ≢ pos 0 → n ≢ pos 1 → n ≢ pos 2 → applied n o e ms w ≡ w
other_duration (negsuc n) o e ms w a b c = refl
other_duration (pos zero) o e ms w a b c = absurd (a refl)
other_duration (pos (suc zero)) o e ms w a b c = absurd (b refl)
other_duration (pos (suc (suc zero))) o e ms w a b c = absurd (c refl)
other_duration (pos (suc (suc (suc n)))) o e ms w a b c = refl
