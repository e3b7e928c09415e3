-- The declared names as they grow and shrink, and what is found in them.
use Rattle.std.proofs.Common.{◌≡◌, ℕ, zero, suc, ◌+◌, ◌≤◌, Bool, true, false, if◌then◌else◌, nat_le, List, [], ◌∷◌, ◌++◌, length, map, drop, take, slice_get, Option, None, Some, IsSome, is_some}
use Rattle.std.proofs.Common.{refl, sym, ap, subst, ◌∙◌, arith}
use Rattle.std.proofs.lemmas.Bool.Decides.{nat_tests}
use Rattle.std.specs.Cmp.Lexicographic.{bytes_decides}
use Rattle.std.specs.Option.{option_map, option_and_then}
use Rattle.std.specs.Str.{bytes_eq}
use Rattle.nwq_value.specs.Index.{number_under, Puts}
use Rattle.typing_rules.specs.Sight as sight
use Rattle.typing_rules.specs.Sight.{find, find_from}
use Rattle.nss_scopes.specs.declared.names.Slot.{Slot}
use Rattle.nss_scopes.specs.Slots.{entry_in, last_from, last_place, Shadows, HasLast}

joined : (xs : List Slot) (s : Slot) (ys : List Slot) → (xs ++ s ∷ []) ++ ys ≡ xs ++ s ∷ ys
joined [] s ys = refl
joined (x ∷ xs) s ys = ap (λ l. x ∷ l) (joined xs s ys)

none_behind : (xs : List Slot) → xs ++ [] ≡ xs
none_behind [] = refl
none_behind (x ∷ xs) = ap (λ l. x ∷ l) (none_behind xs)

-- ---- the last place, with a name more

last_more : (found : Option ℕ) (n : ℕ) (x : List ℕ) (ss : List Slot) (s : Slot)
    → last_from found n x (ss ++ s ∷ []) ≡ (if bytes_eq x s.entry.called then Some (n + length ss) else last_from found n x ss)
last_more found n x [] s = ap (λ k. if bytes_eq x s.entry.called then Some k else found) (omega arith)
last_more found n x (t ∷ ss) s =
    last_more (if bytes_eq x t.entry.called then Some n else found) (n + 1) x ss s
    ∙ ap (λ k. if bytes_eq x s.entry.called then Some k else last_from (if bytes_eq x t.entry.called then Some n else found) (n + 1) x ss) (omega arith)

pub place_more : (x : List ℕ) (ss : List Slot) (s : Slot)
    → last_place x (ss ++ s ∷ []) ≡ (if bytes_eq x s.entry.called then Some (length ss) else last_place x ss)
place_more x ss s = last_more None 0 x ss s ∙ ap (λ k. if bytes_eq x s.entry.called then Some k else last_place x ss) (omega arith)

-- ---- what is hidden

shadows_more : (before ss : List Slot) (s : Slot) → Shadows before ss → s.hidden ≡ last_place s.entry.called (before ++ ss) → Shadows before (ss ++ s ∷ [])
shadows_more before [] s all is = (is ∙ ap (last_place s.entry.called) (none_behind before), tt)
shadows_more before (t ∷ ss) s all is = (all.0, shadows_more (before ++ t ∷ []) ss s all.1 (is ∙ ap (last_place s.entry.called) (sym (joined before t ss))))

shadows_less : (before ss : List Slot) (s : Slot) → Shadows before (ss ++ s ∷ []) → Shadows before ss × (s.hidden ≡ last_place s.entry.called (before ++ ss))
shadows_less before [] s all = (tt, all.0 ∙ ap (last_place s.entry.called) (sym (none_behind before)))
shadows_less before (t ∷ ss) s all =
    let rest = shadows_less (before ++ t ∷ []) ss s all.1 in
    ((all.0, rest.0), rest.1 ∙ ap (last_place s.entry.called) (joined before t ss))

-- ---- the index after a name more, and one less

pub has_last_more : (slots : List Slot) (s : Slot) (before after : List (List ℕ × ℕ)) → HasLast slots before
    → s.hidden ≡ number_under s.entry.called before → Puts s.entry.called (Some (length slots)) before after → HasLast (slots ++ s ∷ []) after
has_last_more slots s before after has hidden put = record {
  last = λ x. put x ∙ ap (λ o. if bytes_eq x s.entry.called then Some (length slots) else o) (has.last x) ∙ sym (place_more x slots s);
  shadows = shadows_more [] slots s has.shadows (hidden ∙ has.last s.entry.called);
}

pub has_last_less : (slots : List Slot) (s : Slot) (before after : List (List ℕ × ℕ)) → HasLast (slots ++ s ∷ []) before
    → Puts s.entry.called s.hidden before after → HasLast slots after
has_last_less slots s before after has put =
    let rest = shadows_less [] slots s has.shadows in
    record { last = λ x. put x ∙ by x (bytes_eq x s.entry.called) refl rest.1; shadows = rest.0 }
  where
    by : (x : List ℕ) (b : Bool) → bytes_eq x s.entry.called ≡ b → s.hidden ≡ last_place s.entry.called slots
        → (if b then s.hidden else number_under x before) ≡ last_place x slots
    by x true is hidden = hidden ∙ ap (λ y. last_place y slots) (sym ((bytes_decides x s.entry.called).0 is))
    by x false is hidden = has.last x ∙ (place_more x slots s ∙ ap (λ b. if b then Some (length slots) else last_place x slots) is)

pub has_it : (slots : List Slot) (s : Slot) (index : List (List ℕ × ℕ)) → HasLast (slots ++ s ∷ []) index → IsSome (number_under s.entry.called index)
has_it slots s index has =
    let own : bytes_eq s.entry.called s.entry.called ≡ true = (bytes_decides s.entry.called s.entry.called).1 refl in
    subst IsSome (sym (has.last s.entry.called ∙ place_more s.entry.called slots s ∙ ap (λ b. if b then Some (length slots) else last_place s.entry.called slots) own)) refl

-- ---- what is found

module _ (at : ℕ → Option Slot) (x : List ℕ) where
  found_from : (g : Option sight.Entry) (found : Option ℕ) (n : ℕ) (ss : List Slot) → ((i : ℕ) → at (n + i) ≡ slice_get ss i)
      → g ≡ option_map entry_in (option_and_then at found) → find_from g x (map entry_in ss) ≡ option_map entry_in (option_and_then at (last_from found n x ss))
  found_from g found n [] here is = is
  found_from g found n (s ∷ ss) here is =
      found_from (if bytes_eq x s.entry.called then Some (entry_in s) else g) (if bytes_eq x s.entry.called then Some n else found) (n + 1) ss
      (λ i. ap at (omega arith) ∙ here (suc i)) (by (bytes_eq x s.entry.called))
    where
      by : (b : Bool) → (if b then Some (entry_in s) else g) ≡ option_map entry_in (option_and_then at (if b then Some n else found))
      by true = ap (option_map entry_in) (sym (ap at (omega arith) ∙ here 0))
      by false = is

pub found_at : (x : List ℕ) (ss : List Slot) → find x (map entry_in ss) ≡ option_map entry_in (option_and_then (slice_get ss) (last_place x ss))
found_at x ss = found_from (slice_get ss) x None None 0 ss (λ i. ap (slice_get ss) (omega arith)) refl

-- ---- what is found behind the first ones

abbrev pub since : ℕ → Option ℕ → Bool
since n None = false
since n (Some i) = nat_le n i

module _ (x : List ℕ) where
  found_since : (g : Option sight.Entry) (found : Option ℕ) (base n : ℕ) (ss : List Slot) → base ≤ n → is_some g ≡ since base found
      → is_some (find_from g x (map entry_in ss)) ≡ since base (last_from found n x ss)
  found_since g found base n [] le is = is
  found_since g found base n (s ∷ ss) le is =
      found_since (if bytes_eq x s.entry.called then Some (entry_in s) else g)
      (if bytes_eq x s.entry.called then Some n else found) base (n + 1) ss (omega (arith, le))
      (by (bytes_eq x s.entry.called))
    where
      by : (b : Bool) → is_some (if b then Some (entry_in s) else g) ≡ since base (if b then Some n else found)
      by true = grind (arith, nat_tests, le)
      by false = is

  dropped : (k : ℕ) (found : Option ℕ) (n : ℕ) (ss : List Slot) → since (n + k) found ≡ false
      → is_some (find x (drop k (map entry_in ss))) ≡ since (n + k) (last_from found n x ss)
  dropped zero found n ss is =
      let e : n + 0 ≡ n = omega arith in
      found_since None found (n + 0) n ss (omega arith) (sym is)
  dropped (suc k) found n [] is = sym is
  dropped (suc k) found n (s ∷ ss) is =
      let e : n + 1 + k ≡ n + suc k = omega arith in
      dropped k (if bytes_eq x s.entry.called then Some n else found) (n + 1) ss (ap (λ m. since m (if bytes_eq x s.entry.called then Some n else found)) e ∙ by (bytes_eq x s.entry.called))
      ∙ ap (λ m. since m (last_from (if bytes_eq x s.entry.called then Some n else found) (n + 1) x ss)) e
    where
      by : (b : Bool) → since (n + suc k) (if b then Some n else found) ≡ false
      by true = grind (arith, nat_tests)
      by false = is

pub has_since : (x : List ℕ) (k : ℕ) (ss : List Slot) → is_some (find x (drop k (map entry_in ss))) ≡ since k (last_place x ss)
has_since x k ss = dropped x k None 0 ss refl ∙ ap (λ m. since m (last_place x ss)) (omega arith)

-- ---- the same by the index

pub found_by : (x : List ℕ) (ss : List Slot) (index : List (List ℕ × ℕ)) (names : List sight.Entry) (p : Option ℕ) → HasLast ss index → map entry_in ss ≡ names
    → p ≡ number_under x index → option_map entry_in (option_and_then (slice_get ss) p) ≡ find x names
found_by x ss index names p has view is =
    ap (λ o. option_map entry_in (option_and_then (slice_get ss) o)) (is ∙ has.last x) ∙ (sym (found_at x ss) ∙ ap (find x) view)

pub since_by : (x : List ℕ) (k : ℕ) (ss : List Slot) (index : List (List ℕ × ℕ)) (names : List sight.Entry) (p : Option ℕ) → HasLast ss index
    → map entry_in ss ≡ names → p ≡ number_under x index → since k p ≡ is_some (find x (drop k names))
since_by x k ss index names p has view is = ap (since k) (is ∙ has.last x) ∙ (sym (has_since x k ss) ∙ ap (λ es. is_some (find x (drop k es))) view)

pub taken : (k : ℕ) (ss : List Slot) → map entry_in (take k ss) ≡ take k (map entry_in ss)
taken zero ss = refl
taken (suc k) [] = refl
taken (suc k) (s ∷ ss) = ap (λ l. entry_in s ∷ l) (taken k ss)
