-- Turns that are counted, and the objects that have them.
use Rattle.std.proofs.Common.{◌≡◌, ◌<◌, ◌≤◌, ℕ, ℤ, zero, suc, ◌+◌, Bool, true, false, List, [], ◌∷◌, ◌++◌, length, take, get_or, map, sym, ap, refl, ◌∙◌, subst, inl, inr, ◌⊎◌, arith}
use Rattle.std.specs.Prelude.{Some, slice_get, IsTrue, ◌↔◌, nat_eq, if◌then◌else◌}
use Rattle.std.specs.List.{AllByRecursion}
use Rattle.std.specs.Option.{option_map}
use Rattle.std.proofs.lemmas.Bool.Decides.{nat_tests}
use Rattle.delay_agenda.specs.declared.entry.Entry.{Entry}
use Rattle.delay_agenda.specs.declared.entry.Kind.{Kind}
use Rattle.delay_agenda.specs.declared.entry.Kind.TheVariants.{Event, Stored, Turn, Unapply}
use Rattle.delay_agenda.specs.Waiting.{turn_count, is_turn_of, is_turn_kind}
use Rattle.saved_state.specs.declared.saved.Saved.{Saved}
use Rattle.world_rules.specs.Kept.{IsPlaced}
use Rattle.state_format.specs.declared.parts.Captured.{Captured}
use Rattle.state_format.specs.declared.parts.Entry.{Entry as Part}
use Rattle.state_format.specs.declared.parts.KindPart.{KindPart}
use Rattle.state_format.specs.declared.parts.KindPart.TheVariants as kind
use Rattle.state_format.specs.declared.parts.Object.{Object}
use Rattle.state_parts.specs.World.{entry_of, kind_of}
use Rattle.state_format.specs.declared.parts.Parts.{Parts}
use Rattle.play_save.specs.Rules.{IsSettledBy, AreSettled, HasTurns}
use Rattle.play_save.specs.Breaking.{CountsOne, CountsTurns, IsTurnOnlyOf}
use Rattle.state_parts.specs.KeepingLemmas.{map_more}

-- ---- one entry more

both_ways : (b c : Bool) (n m : ℕ) → m ≡ (if c then suc n else n) → (if b then suc m else m) ≡ (if c then suc (if b then suc n else n) else (if b then suc n else n))
both_ways true true n m e = ap suc e
both_ways true false n m e = ap suc e
both_ways false true n m e = e
both_ways false false n m e = e

count_end : (o : ℕ) (es : List (Entry Saved)) (e : Entry Saved) → turn_count o (es ++ e ∷ []) ≡ (if is_turn_of o e then suc (turn_count o es) else turn_count o es)
count_end o [] e = refl
count_end o (x ∷ es) e = both_ways (is_turn_of o x) (is_turn_of o e) (turn_count o es) (turn_count o (es ++ e ∷ [])) (count_end o es e)

count_taken : (o : ℕ) (parts : List Part) (i : ℕ) (part : Part) → i < length parts → part ≡ get_or parts i part
    → turn_count o (map entry_of (take (i + 1) parts))
    ≡ (if is_turn_of o (entry_of part) then suc (turn_count o (map entry_of (take i parts))) else turn_count o (map entry_of (take i parts)))
count_taken o parts i part h at =
    let front = map entry_of (take i parts) in
    ap (turn_count o) (sym (map_more entry_of parts i part (entry_of part) front (front ++ entry_of part ∷ []) refl refl refl h at)) ∙ count_end o front (entry_of part)

-- ---- an entry's Turn

zero_apart : (i : ℕ) → nat_eq 0 (suc i) ≡ false
zero_apart i = grind (arith, nat_tests)

pub only_turn : (e : Part) (object : ℕ) → e.kind ≡ kind.Turn object → IsTurnOnlyOf object e
only_turn e object is i = ap (λ (k : KindPart). is_turn_kind (suc i) (kind_of k)) is

pub no_event : (e : Part) (o : ℕ) (script : List ℕ) (user : ℤ) → e.kind ≡ kind.Event o script user → IsTurnOnlyOf 0 e
no_event e o script user is i = ap (λ (k : KindPart). is_turn_kind (suc i) (kind_of k)) is ∙ sym (zero_apart i)

pub no_stored : (e : Part) (o : ℕ) (c : Captured) → e.kind ≡ kind.Stored o c → IsTurnOnlyOf 0 e
no_stored e o c is i = ap (λ (k : KindPart). is_turn_kind (suc i) (kind_of k)) is ∙ sym (zero_apart i)

pub no_unapply : (e : Part) (o : ℕ) → e.kind ≡ kind.Unapply o → IsTurnOnlyOf 0 e
no_unapply e o is i = ap (λ (k : KindPart). is_turn_kind (suc i) (kind_of k)) is ∙ sym (zero_apart i)

pub turn_placed : (most : ℕ) (e : Part) (object : ℕ) → e.kind ≡ kind.Turn object → IsPlaced most (kind_of e.kind) → object ≤ most
turn_placed most e object is placed =
    let both : (1 ≤ object) × (object ≤ most) = subst (λ (k : KindPart). IsPlaced most (kind_of k)) is placed in
    both.1

-- ---- all entries so far

pub counts_step : (counts new : List ℕ) (parts : List Part) (i objects : ℕ) (part : Part) → CountsTurns counts (take i parts) objects → CountsOne counts part new
    → i < length parts → part ≡ get_or parts i part → CountsTurns new (take (i + 1) parts) objects
counts_step counts new parts i objects part before one h at k inside =
    one k ∙ ap (option_map (λ (n : ℕ). if is_turn_of (suc k) (entry_of part) then suc n else n)) (before k inside) ∙ ap Some (sym (count_taken (suc k) parts i part h at))

count_most : (o : ℕ) (es : List (Entry Saved)) → turn_count o es ≤ length es
count_most o [] = omega arith
count_most o (x ∷ es) = by_test (is_turn_of o x) (count_most o es)
  where
    by_test : (b : Bool) → turn_count o es ≤ length es → (if b then suc (turn_count o es) else turn_count o es) ≤ suc (length es)
    by_test true rest = omega arith
    by_test false rest = omega arith

taken_most : (parts : List Part) (i : ℕ) → length (map entry_of (take i parts)) ≤ i
taken_most parts zero = omega arith
taken_most [] (suc i) = omega arith
taken_most (p ∷ parts) (suc i) = let rest = taken_most parts i in omega arith

some_inside : (xs : List ℕ) (k n : ℕ) → slice_get xs k ≡ Some n → k < length xs
some_inside [] k n at = absurd cc
some_inside (x ∷ xs) zero n at = omega arith
some_inside (x ∷ xs) (suc k) n at = let rest = some_inside xs k n at in omega arith

some_same : (a b : ℕ) → Some a ≡ Some b → a ≡ b
some_same a b e = cc

-- no count is more than the entries so far
pub counts_room : (counts : List ℕ) (parts : List Part) (i objects most : ℕ) → CountsTurns counts (take i parts) objects → length counts ≡ objects → i < most
    → (k n : ℕ) → slice_get counts k ≡ Some n → n < most
counts_room counts parts i objects most are long below k n at =
    let inside : k < objects = omega (arith, long, some_inside counts k n at) in
    let same : n ≡ turn_count (suc k) (map entry_of (take i parts)) = some_same n (turn_count (suc k) (map entry_of (take i parts))) (sym at ∙ are k inside) in
    let few = count_most (suc k) (map entry_of (take i parts)) in
    let taken = taken_most parts i in
    omega (arith, same, few, taken, below)

-- ---- objects by their numbers

some_at : (xs : List ℕ) (k : ℕ) → k < length xs → slice_get xs k ≡ Some (get_or xs k 0)
some_at [] k h = absurd (omega arith)
some_at (x ∷ xs) zero h = refl
some_at (x ∷ xs) (suc k) h = some_at xs k (omega arith)

pub object_inside : (objects : List Object) (i : ℕ) (o : Object) → slice_get objects i ≡ Some o → i < length objects
object_inside [] i o at = absurd cc
object_inside (x ∷ objects) zero o at = omega arith
object_inside (x ∷ objects) (suc i) o at = let rest = object_inside objects i o at in omega arith

object_same : (objects : List Object) (i : ℕ) (x o : Object) → slice_get objects i ≡ Some x → o ≡ get_or objects i o → o ≡ x
object_same [] i x o at is = absurd cc
object_same (y ∷ objects) zero x o at is = is ∙ (let e = at in cc)
object_same (y ∷ objects) (suc i) x o at is = object_same objects i x o at is

-- one object more that is settled
pub settled_more : (entries : List Part) (objects : List Object) (counts seen : List ℕ) (i : ℕ) (o : Object) → CountsTurns counts entries (length objects) → length counts ≡ length objects
    → seen ≡ counts → o ≡ get_or objects i o → i < length objects → IsSettledBy (get_or seen i 0) o
    → ((k : ℕ) (x : Object) → k < i → slice_get objects k ≡ Some x → IsSettledBy (turn_count (suc k) (map entry_of entries)) x)
    → (k : ℕ) (x : Object) → k < i + 1 → slice_get objects k ≡ Some x → IsSettledBy (turn_count (suc k) (map entry_of entries)) x
settled_more entries objects counts seen i o are long same is h settled before k x below at = by_test (nat_eq k i) refl
  where
    by_test : (b : Bool) → nat_eq k i ≡ b → IsSettledBy (turn_count (suc k) (map entry_of entries)) x
    by_test true e =
        let here : k ≡ i = grind (arith, nat_tests, e) in
        let turns : get_or seen i 0 ≡ turn_count (suc i) (map entry_of entries) =
        ap (λ (l : List ℕ). get_or l i 0) same ∙ some_same (get_or counts i 0) (turn_count (suc i) (map entry_of entries)) (sym (some_at counts i (omega (arith, h, long))) ∙ are i h) in
        subst (λ (y : Object). IsSettledBy (turn_count (suc k) (map entry_of entries)) y) (object_same objects i x o (ap (λ (j : ℕ). slice_get objects j) (sym here) ∙ at) is)
        (subst (λ (n : ℕ). IsSettledBy n o) (turns ∙ ap (λ (j : ℕ). turn_count (suc j) (map entry_of entries)) (sym here)) settled)
    by_test false e = before k x (grind (arith, nat_tests, e, below)) at

-- what was found of all objects, as a state has them
pub settled_is : (s : Parts) (objects : List Object) (entries : List Part) (b : Bool) → objects ≡ s.objects → entries ≡ s.agenda → (IsTrue b ↔ AreSettled (map entry_of entries) objects)
    → IsTrue b ↔ HasTurns s
settled_is s objects entries b listed waiting is =
    subst (λ (l : List Part). IsTrue b ↔ AreSettled (map entry_of l) s.objects) waiting (subst (λ (l : List Object). IsTrue b ↔ AreSettled (map entry_of entries) l) listed is)

-- ---- objects that are not there

pub none_placed : (o most : ℕ) (parts : List Part) → AllByRecursion (λ (e : Part). IsPlaced most (entry_of e).kind) parts → (o ≡ 0) ⊎ (most < o)
    → turn_count o (map entry_of parts) ≡ 0
none_placed o most [] all out = refl
none_placed o most (p ∷ parts) all out = ap (λ (b : Bool). if b then suc (turn_count o (map entry_of parts)) else turn_count o (map entry_of parts)) (none_of (entry_of p).kind all.0 out)
    ∙ none_placed o most parts all.1 out
  where
    none_of : (k : Kind Saved) → IsPlaced most k → (o ≡ 0) ⊎ (most < o) → is_turn_kind o k ≡ false
    none_of (Event x script user) is out = refl
    none_of (Stored x state) is out = refl
    none_of (Unapply x) is out = refl
    none_of (Turn x) is (inl e) = let low = is.0 in grind (arith, nat_tests)
    none_of (Turn x) is (inr e) = let high = is.1 in grind (arith, nat_tests)
