-- What follows whole items of a unit is read as if it stood alone.
use Rattle.std.proofs.Common.{◌≡◌, ◌∙◌, ℕ, suc, ◌+◌, ◌-◌, ◌<◌, ◌≤◌, ◌==◌, ◌↔◌, IsTrue, Bool, true, false, List, [], ◌∷◌, ◌++◌, length, take, map, refl, sym, ap, subst, arith, append_assoc}
use Rattle.std.proofs.Common.{append-nil, length-append}
use Rattle.std.proofs.lemmas.Bool.Decides.{nat_tests}
use Rattle.std.proofs.lemmas.List.{length-map, take_all}
use Rattle.nss_tree.specs.Source.{SourceItem, SourceItems, SourceTree}
use Rattle.nss_symbols.specs.declared.symbol.Seen.{Seen}
use Rattle.nss_symbols.specs.Symbols.{Symbol, Numbered, numbered_from}
use Rattle.nss_symbols.specs.Outcome.{Got, Stuck, Deep}
use Rattle.nss_symbols.specs.Cursor.{plain_symbol}
use Rattle.nss_parser.specs.Unit.{Item, Items}
use Rattle.nss_parser.specs.Unit as spelled
use Rattle.nss_parser.specs.ReadStatement.{entries, statement}
use Rattle.nss_parser.specs.ReadUnit.{item, items}
use Rattle.nss_parser.specs.ReadWhole.{unit}
use Rattle.nss_parser.specs.Sentence.{Parses, IsPrefix}
use Rattle.nss_parser.specs.Front.{AreItems, TellsPrefix}
use Rattle.nss_parser.proofs.Right.{RightOf, Viable, numbered_append}
use Rattle.nss_parser.proofs.Completions.{symbols}
use Rattle.nss_parser.proofs.UnitComplete.{complete_item, some_item}
use Rattle.nss_parser.proofs.Whole.{body_reads, whole_reads, numbered_length, take_numbered, outcome_right, outcome_local, prefix_of, one_right}

-- ---- items before others

pub items_join : {xs ys : SourceItems} {i j : List Numbered} → Items xs i → Items ys j → Items (xs ++ ys) (i ++ j)
items_join spelled.none b = b
items_join {ys = ys} {j = j} (spelled.more {x = x} {all = all} {xs = one} {ys = rest} h hs) b =
    subst (λ (l : List Numbered). Items (x ∷ (all ++ ys)) l) (sym (append_assoc one rest j)) (spelled.more h (items_join hs b))

-- an item at the front of a unit is its first one
behind_item : {x : SourceItem} {one : List Numbered} → Item x one → (w : List Numbered) {ys : SourceItems} {all : List Numbered} → Items ys all
    → all ≡ one ++ w → (more : SourceItems) × Items more w
behind_item {x} {one} h w spelled.none e =
    let d = suc (suc (length (one ++ w))) in
    let (s, r, is) = some_item d (d - 1) (omega arith) (entries d (statement d) false) (body_reads d) h in
    let none : [] ≡ s ∷ (r ++ w) = e ∙ ap (λ (l : List Numbered). l ++ w) is in cc
behind_item {x} {one} h w (spelled.more {x = y} {all = more} {xs = first} {ys = rest} p ps) e =
    let d = suc (suc (length (one ++ w))) in
    let lengths = ap length e in
    let a : item d (entries d (statement d) false) (one ++ w) ≡ Got x w =
    complete_item d (d - 1) (omega arith) (entries d (statement d) false) (body_reads d) h w (omega arith) in
    let b : item d (entries d (statement d) false) (first ++ rest) ≡ Got y rest =
    complete_item d (d - 1) (omega arith) (entries d (statement d) false) (body_reads d) p rest (omega arith) in
    let both : Got x w ≡ Got y rest = sym a ∙ ap (item d (entries d (statement d) false)) (sym e) ∙ b in
    let same : rest ≡ w = cc in (more, subst (λ (l : List Numbered). Items more l) same ps)

-- what follows whole items in a unit are items
pub items_rest : {xs : SourceItems} {i : List Numbered} → Items xs i → (ys : SourceItems) (w : List Numbered) → Items ys (i ++ w) → (more : SourceItems) × Items more w
items_rest spelled.none ys w h = (ys, h)
items_rest (spelled.more {xs = one} {ys = rest} p ps) ys w h =
    let (more, hs) = behind_item p (rest ++ w) h (append_assoc one rest w) in items_rest ps more w hs

-- ---- tokens behind whole items

behind : (front rest : List Symbol) (n : ℕ) → length front ≡ n → numbered_from 0 (front ++ rest) ≡ numbered_from 0 front ++ numbered_from n rest
behind front rest n e =
    numbered_append 0 front rest ∙ ap (λ (k : ℕ). numbered_from 0 front ++ numbered_from k rest) (let same : 0 + length front ≡ n = omega (arith, e) in same)

got_prefix : (front rest : List Symbol) (n d : ℕ) (x : SourceItems) (left : List Numbered) → AreItems front → length front ≡ n
    → unit d (numbered_from n rest) ≡ Got x left → IsPrefix (front ++ rest)
got_prefix front rest n d x left (items, h) many e =
    let (ys, is, p) = outcome_right d (numbered_from n rest) (Got x left) e in
    let whole : numbered_from n rest ≡ ys = is ∙ ap (λ (r : List Numbered). ys ++ r) p.1 ∙ append-nil ys in
    let joined : Items (items ++ x) (numbered_from 0 front ++ numbered_from n rest) = items_join h (subst (λ (l : List Numbered). Items x l) (sym whole) p.0) in
    let tree : SourceTree = record { items = items ++ x; count = length (front ++ rest) } in
    let parses : Parses (front ++ rest) tree = record { items = subst (λ (l : List Numbered). Items (items ++ x) l) (sym (behind front rest n many)) joined; count = refl } in
    record { more = []; spelled = tt; tree = tree; parses = subst (λ (ts : List Symbol). Parses ts tree) (sym (append-nil (front ++ rest))) parses }

end_prefix : (front rest : List Symbol) (n d : ℕ) → AreItems front → length front ≡ n → unit d (numbered_from n rest) ≡ Stuck [] → IsPrefix (front ++ rest)
end_prefix front rest n d (items, h) many e =
    let (ys, is, v) = outcome_right d (numbered_from n rest) (Stuck []) e in
    let first = numbered_from 0 front in
    let viable : Viable Items (numbered_from 0 front ++ ys) = λ k.
    let (more, x, p) = v k in
    (more, items ++ x, subst (λ (l : List Numbered). Items (items ++ x) l) (sym (append_assoc (numbered_from 0 front) ys (numbered_from k (symbols more)))) (items_join h p)) in
    let whole : numbered_from 0 (front ++ rest) ≡ (numbered_from 0 front ++ ys) ++ [] =
    behind front rest n many ∙ ap (λ (l : List Numbered). numbered_from 0 front ++ l) is ∙ sym (append_assoc (numbered_from 0 front) ys []) in
    let one = numbered_length 0 (front ++ rest) in
    let two = ap length (whole ∙ append-nil (numbered_from 0 front ++ ys)) in
    let all : take (length (numbered_from 0 front ++ ys)) (front ++ rest) ≡ front ++ rest = take_all (length (numbered_from 0 front ++ ys)) (front ++ rest) (omega (arith, one, two)) in
    subst IsPrefix all (prefix_of (front ++ rest) (numbered_from 0 front ++ ys) [] whole viable)

-- where reading stops before the end, nothing completes the tokens
no_items : (d : ℕ) (i after r : List Numbered) (s : Numbered) (all : SourceItems) → unit d i ≡ Stuck (s ∷ r) → Items all (i ++ after) → ⊥
no_items d i after r s all e h =
    let a : unit (d + suc (suc (length (i ++ after)))) (i ++ after) ≡ Got all [] = whole_reads h (d + suc (suc (length (i ++ after)))) (omega arith) in
    let (xs, is, on) = outcome_local d (d + suc (suc (length (i ++ after)))) (omega arith) i (Stuck (s ∷ r)) e in
    let b : unit (d + suc (suc (length (i ++ after)))) (xs ++ s ∷ (r ++ after)) ≡ Stuck (s ∷ (r ++ after)) = on (s ∷ (r ++ after)) refl in
    let same : i ++ after ≡ xs ++ s ∷ (r ++ after) = ap (λ (l : List Numbered). l ++ after) is ∙ append_assoc xs (s ∷ r) after in
    let bad : Got all [] ≡ Stuck (s ∷ (r ++ after)) = sym a ∙ ap (unit (d + suc (suc (length (i ++ after))))) same ∙ b in cc

stuck_no_prefix : (front rest : List Symbol) (n d : ℕ) (s : Numbered) (r : List Numbered) → AreItems front → length front ≡ n
    → unit d (numbered_from n rest) ≡ Stuck (s ∷ r) → IsPrefix (front ++ rest) → ⊥
stuck_no_prefix front rest n d s r (all, h) many e p =
    let whole : numbered_from 0 ((front ++ rest) ++ p.more) ≡ numbered_from 0 front ++ (numbered_from n rest ++ numbered_from (n + length rest) p.more) =
    ap (numbered_from 0) (append_assoc front rest p.more) ∙ behind front (rest ++ p.more) n many
    ∙ ap (λ (l : List Numbered). numbered_from 0 front ++ l) (numbered_append n rest p.more) in
    let (more, hs) = items_rest h p.tree.items (numbered_from n rest ++ numbered_from (n + length rest) p.more) (subst (λ (l : List Numbered). Items p.tree.items l) whole p.parses.items) in
    no_items d (numbered_from n rest) (numbered_from (n + length rest) p.more) r s more e hs

-- ---- what the reader of the rest gives

count_is : (xs : List Seen) → length (map plain_symbol xs) ≡ length xs
count_is xs = length-map xs plain_symbol

pub got_tells : (xs : List Seen) (n d : ℕ) (x : SourceItems) (v left : List Numbered) → v ≡ numbered_from n (map plain_symbol xs)
    → items d (entries d (statement d) false) v ≡ Got x left → TellsPrefix n (map plain_symbol xs) true
unfolding unit
got_tells xs n d x v left e h front are many =
    ((λ _. got_prefix front (map plain_symbol xs) n d x left are many (ap (items d (entries d (statement d) false)) (sym e) ∙ h)), (λ _. refl))

stuck_by : (front rest : List Symbol) (n d : ℕ) (left : List Numbered) (b : Bool) → AreItems front → length front ≡ n → unit d (numbered_from n rest) ≡ Stuck left → (length left == 0) ≡ b
    → (IsTrue b) ↔ IsPrefix (front ++ rest)
stuck_by front rest n d [] b are many e is = let yes : b ≡ true = sym is in ((λ _. end_prefix front rest n d are many e), (λ _. let t : IsTrue b = yes in t))
stuck_by front rest n d (s ∷ r) true are many e is = let bad : length (s ∷ r) ≡ 0 = grind (arith, nat_tests) in cc
stuck_by front rest n d (s ∷ r) false are many e is = ((λ yes. let none : ⊥ = cc in absurd none), (λ p. absurd (stuck_no_prefix front rest n d s r are many e p)))

pub stuck_tells : (xs : List Seen) (n d : ℕ) (v left : List Numbered) (b : Bool) → v ≡ numbered_from n (map plain_symbol xs)
    → items d (entries d (statement d) false) v ≡ Stuck left → (length left == 0) ≡ b → TellsPrefix n (map plain_symbol xs) b
unfolding unit
stuck_tells xs n d v left b e h is front are many =
    stuck_by front (map plain_symbol xs) n d left b are many (ap (items d (entries d (statement d) false)) (sym e) ∙ h) is

many_of : (n : ℕ) (xs : List Seen) → length (numbered_from n (map plain_symbol xs)) ≡ length xs
many_of n xs = numbered_length n (map plain_symbol xs) ∙ count_is xs

pub never_deep : (xs : List Seen) (n d : ℕ) (v : List Numbered) → v ≡ numbered_from n (map plain_symbol xs) → length xs + 1 < d
    → items d (entries d (statement d) false) v ≡ Deep → ⊥
unfolding unit
never_deep xs n d v e lt h =
    let deep : d ≤ suc (length (numbered_from n (map plain_symbol xs))) =
    outcome_right d (numbered_from n (map plain_symbol xs)) Deep (ap (items d (entries d (statement d) false)) (sym e) ∙ h) in
    let many = many_of n xs in omega arith

-- ---- reading of whole items

-- so many tokens of these are read as items, and these are left
pub record ReadSoFar (xs : List Seen) (count : ℕ) (left : List Numbered) : Type 0 where
  pub read : List Numbered
  pub items : SourceItems
  pub is : numbered_from 0 (map plain_symbol xs) ≡ read ++ left
  pub spelled : Items items read
  pub many : count ≡ length read

pub none_read : (xs : List Seen) (v : List Numbered) → v ≡ numbered_from 0 (map plain_symbol xs) → ReadSoFar xs 0 v
none_read xs v e = record { read = []; items = []; is = sym e; spelled = spelled.none; many = refl }

lengths_of : (xs : List Seen) (read left : List Numbered) → numbered_from 0 (map plain_symbol xs) ≡ read ++ left → length xs ≡ length read + length left
lengths_of xs read left e = sym (many_of 0 xs) ∙ ap length e ∙ length-append read left

pub left_within : (xs : List Seen) (count : ℕ) (left : List Numbered) → ReadSoFar xs count left → length left ≤ length xs
left_within xs count left so = let lengths = lengths_of xs so.read left so.is in omega arith

pub count_within : (xs : List Seen) (count : ℕ) (left : List Numbered) → ReadSoFar xs count left → count ≤ length xs
count_within xs count left so = let lengths = lengths_of xs so.read left so.is in let many = so.many in omega arith

pub are_items : (xs : List Seen) (count : ℕ) (left : List Numbered) → ReadSoFar xs count left → AreItems (take count (map plain_symbol xs))
are_items xs count left so =
    let same : numbered_from 0 (take count (map plain_symbol xs)) ≡ so.read =
    ap (λ (n : ℕ). numbered_from 0 (take n (map plain_symbol xs))) so.many ∙ take_numbered 0 (map plain_symbol xs) so.read left so.is in
    (so.items, subst (λ (l : List Numbered). Items so.items l) (sym same) so.spelled)

pub one_read : (xs : List Seen) (count d : ℕ) (left rest : List Numbered) (x : SourceItem) → ReadSoFar xs count left
    → item d (entries d (statement d) false) left ≡ Got x rest → ReadSoFar xs (length xs - length rest) rest
one_read xs count d left rest x so e =
    let (one, is, p) = subst (λ o. RightOf (λ y ys rest. Item y ys) (Viable Item) (d ≤ suc (length left)) left o) e (one_right d left).by in
    let whole : numbered_from 0 (map plain_symbol xs) ≡ (so.read ++ one) ++ rest =
    so.is ∙ ap (λ (l : List Numbered). so.read ++ l) is ∙ sym (append_assoc so.read one rest) in
    let lengths = lengths_of xs (so.read ++ one) rest whole in
    record {
      read = so.read ++ one;
      items = so.items ++ x ∷ [];
      is = whole;
      spelled = items_join so.spelled (subst (λ (l : List Numbered). Items (x ∷ []) l) (append-nil one) (spelled.more p spelled.none));
      many = omega (arith, lengths);
    }
