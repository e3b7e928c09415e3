-- The beginning of a world, and of an entry.
use Rattle.std.proofs.Common.{◌≡◌, ◌<◌, ◌≤◌, ◌+◌, ℕ, zero, suc, Bool, true, false, nat_le, List, [], ◌∷◌, ◌++◌, drop, replicate, None, Some, slice_get, refl, sym, ap, ◌∙◌, arith}
use Rattle.std.specs.Prelude.{if◌then◌else◌}
use Rattle.std.specs.Option.{IfSome}
use Rattle.std.proofs.lemmas.Bool.{false≢true, true≢false}
use Rattle.std.proofs.lemmas.Bool.Decides.{nat_tests}
use Rattle.std.proofs.lemmas.Option.{none-some, same_Some}
use Rattle.delay_agenda.specs.declared.entry.Entry.{Entry}
use Rattle.delay_agenda.specs.Order.{first_due}
use Rattle.world_rules.specs.World.{World}
use Rattle.world_rules.specs.Turns.{begin, entry_begun, user_number, with_entries}
use Rattle.world_parts.specs.Begun.{IsBegunAs}

one_more_suc : {A : Type 0} → (n : ℕ) (a : A) → replicate n a ++ a ∷ [] ≡ replicate (suc n) a
one_more_suc zero a = refl
one_more_suc {A = A} (suc n) a = ap (λ (xs : List A). a ∷ xs) (one_more_suc n a)

pub one_more : {A : Type 0} → (n : ℕ) (a : A) → replicate n a ++ a ∷ [] ≡ replicate (n + 1) a
one_more n a =
    let next : suc n ≡ n + 1 = omega arith in
    one_more_suc n a ∙ ap (λ (k : ℕ). replicate k a) next

le_true : (a b : ℕ) → a ≤ b → nat_le a b ≡ true
le_true a b le = grind (arith, nat_tests, le)

gt_false : (a b : ℕ) → b < a → nat_le a b ≡ false
gt_false a b lt = grind (arith, nat_tests, lt)

if_true : {A : Type 0} → (b : Bool) (x y : A) → b ≡ true → (if b then x else y) ≡ x
if_true true x y is = refl
if_true false x y is = absurd (false≢true is)

if_false : {A : Type 0} → (b : Bool) (x y : A) → b ≡ false → (if b then x else y) ≡ y
if_false true x y is = absurd (true≢false is)
if_false false x y is = refl

-- nothing waits
nothing_in : {X : Type 0} → (until : ℕ) (es : List (Entry X)) (w v : World X) → es ≡ w.agenda.entries → None ≡ slice_get es 0 → v ≡ with_entries (drop 1 es) w → IsBegunAs until w None v
nothing_in {X = X} until [] w v is none left = (ap (λ (es : List (Entry X)). entry_begun until es w) (sym is), left ∙ ap (λ (es : List (Entry X)). with_entries es w) is)
nothing_in until (e ∷ es) w v is none left = absurd (none-some e none)

pub nothing_begun : {X : Type 0} → (until : ℕ) (w v : World X) → None ≡ slice_get w.agenda.entries 0 → v ≡ with_entries (drop 1 w.agenda.entries) w → IsBegunAs until w None v
nothing_begun until w v none left = nothing_in until w.agenda.entries w v refl none left

-- the first entry is begun
abbrev started : {X : Type 0} → Entry X → List (Entry X) → World X → World X
started e rest w = record (with_entries rest w) { clock = e.due; user = user_number e.kind }

first_in : {X : Type 0} → (until : ℕ) (es : List (Entry X)) (w v : World X) (e : Entry X) → es ≡ w.agenda.entries → Some e ≡ slice_get es 0 → IfSome (first_due es) (λ due. due ≤ until) →
    v ≡ started e (drop 1 es) w → IsBegunAs until w (Some e) v
first_in until [] w v e is some due left = absurd (none-some e (sym some))
first_in {X = X} until (x ∷ rest) w v e is some due left =
    let same : x ≡ e = sym (same_Some e x some) in
    ap (λ (es : List (Entry X)). entry_begun until es w) (sym is)
    ∙ (if_true (nat_le x.due until) (Some (record { entry = x; world = started x rest w })) None (le_true x.due until due)
    ∙ (ap (λ (y : Entry X). Some (record { entry = y; world = started y rest w })) same ∙ ap (λ (u : World X). Some (record { entry = e; world = u })) (sym left)))

pub first_begun : {X : Type 0} → (until : ℕ) (w v : World X) (e : Entry X) → Some e ≡ slice_get w.agenda.entries 0 → IfSome (first_due w.agenda.entries) (λ due. due ≤ until) →
    v ≡ record (with_entries (drop 1 w.agenda.entries) w) { clock = e.due; user = user_number e.kind } → IsBegunAs until w (Some e) v
first_begun until w v e some due left = first_in until w.agenda.entries w v e refl some due left

-- nothing is due
none_due_in : {X : Type 0} → (until due : ℕ) (es : List (Entry X)) (w : World X) → es ≡ w.agenda.entries → Some due ≡ first_due es → until < due → begin until w ≡ None
none_due_in until due [] w is some late = absurd (none-some due (sym some))
none_due_in {X = X} until due (x ∷ rest) w is some late =
    let same = same_Some due x.due some in
    ap (λ (es : List (Entry X)). entry_begun until es w) (sym is)
    ∙ if_false (nat_le x.due until) (Some (record { entry = x; world = started x rest w })) None (gt_false x.due until (omega (arith, late, same)))

pub none_due : {X : Type 0} → (until due : ℕ) (w : World X) → Some due ≡ first_due w.agenda.entries → until < due → begin until w ≡ None
none_due until due w some late = none_due_in until due w.agenda.entries w refl some late

nothing_waits_in : {X : Type 0} → (until : ℕ) (es : List (Entry X)) (w : World X) → es ≡ w.agenda.entries → None ≡ first_due es → begin until w ≡ None
nothing_waits_in {X = X} until [] w is none = ap (λ (es : List (Entry X)). entry_begun until es w) (sym is)
nothing_waits_in until (x ∷ rest) w is none = absurd (none-some x.due none)

pub nothing_waits : {X : Type 0} → (until : ℕ) (w : World X) → None ≡ first_due w.agenda.entries → begin until w ≡ None
nothing_waits until w none = nothing_waits_in until w.agenda.entries w refl none

pub ruleset first_entry = (nothing_begun, first_begun)

pub ruleset no_entry = (none_due, nothing_waits)
