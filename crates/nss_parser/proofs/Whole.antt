-- A list of tokens has at most one tree, reading gives it, and where reading stops is the exact
-- place.
use Rattle.std.proofs.Common.{◌≡◌, ℕ, suc, ◌+◌, ◌-◌, ◌<◌, ◌≤◌, false, List, [], ◌∷◌, ◌++◌, length, take, refl, sym, ap, subst, ◌∙◌, arith, append_assoc, append-nil, length-append, inl, inr, ◌⊎◌}
use Rattle.std.proofs.lemmas.List.{append_cancel_right}
use Rattle.nss_tree.specs.Source.{SourceItems, SourceStmts, SourceTree}
use Rattle.nss_tree.specs.Statements as stmt
use Rattle.nss_symbols.specs.declared.terminal.Terminal.TheVariants as terminal
use Rattle.nss_symbols.specs.Symbols.{Symbol, Numbered, at, fixed, numbered_from}
use Rattle.nss_symbols.specs.Outcome.{Outcome, Got, Stuck, Deep, next}
use Rattle.nss_parser.specs.Grammar.{Entries}
use Rattle.nss_parser.specs.Unit.{Item, Items}
use Rattle.nss_parser.specs.ReadStatement.{entries, statement}
use Rattle.nss_parser.specs.ReadUnit.{item}
use Rattle.nss_parser.specs.ReadWhole.{unit, ReadingGivesTree}
use Rattle.nss_parser.specs.Sentence.{Parses, IsPrefix, IsDead, IsPlace, OneTree, TreeOrPlace}
use Rattle.nss_parser.proofs.Local.{Local, Same}
use Rattle.nss_parser.proofs.Right.{Right, RightOf, right_as, Viable, viable_as, numbered_append}
use Rattle.nss_parser.proofs.Closed.{Closed}
use Rattle.nss_parser.proofs.Completions.{all_spelled, symbols}
use Rattle.nss_parser.proofs.StatementComplete.{complete_entries}
use Rattle.nss_parser.proofs.StatementLocal.{local_statement, local_entries}
use Rattle.nss_parser.proofs.StatementRight.{Braced, braced, right_statement, right_entries}
use Rattle.nss_parser.proofs.UnitComplete.{complete_items}
use Rattle.nss_parser.proofs.UnitLocal.{local_items}
use Rattle.nss_parser.proofs.UnitRight.{right_item, right_items}

pub body_reads : (d : ℕ) (all : SourceStmts) (xs : List Numbered) → Entries false all xs → (k : ℕ) (rest : List Numbered)
    → length (xs ++ fixed k terminal.CloseBrace ∷ rest) < d - 1 → entries d (statement d) false (xs ++ fixed k terminal.CloseBrace ∷ rest) ≡ Got all rest
unfolding entries
body_reads d all xs h k rest lt = complete_entries h d d stmt.no_stmt k rest (omega arith) (omega arith)

-- what a tree spells is read as that tree
pub whole_reads : {x : SourceItems} {i : List Numbered} → Items x i → (d : ℕ) → suc (length i) < d → unit d i ≡ Got x []
unfolding unit
whole_reads {x} {i} h d lt = complete_items d (d - 1) (omega arith) (entries d (statement d) false) (body_reads d) h (omega arith)

local_unit : (d e : ℕ) → d ≤ e → Local (unit d) (unit e)
unfolding unit
local_unit d e le = local_items d e le (entries d (statement d) false) (entries e (statement e) false) (local_entries d e le (statement d) (statement e) (local_statement d e le) false)

closed_of : {all : SourceStmts} {xs : List Numbered} → Braced false all xs → Closed (Entries false) terminal.CloseBrace all xs
closed_of (braced {xs = xs} k es) = record { tokens = xs; number = k; is = refl; holds = es }

-- the rest of a body
right_body : (d : ℕ) (j : List Numbered) → Right (λ all xs rest. Closed (Entries false) terminal.CloseBrace all xs) (Viable (Closed (Entries false) terminal.CloseBrace))
    (d ≤ suc (length j)) j (entries d (statement d) false j)
right_body d j =
    right_as (right_entries d (statement d) (λ k. right_statement d k) false j)
    (λ all xs rest b. closed_of b)
    (λ xs v. viable_as (Braced false) (Closed (Entries false) terminal.CloseBrace) xs v (λ all ys b. (all, closed_of b)))
    (λ deep. deep)

-- one item
pub one_right : (d : ℕ) (i : List Numbered) → Right (λ y ys rest. Item y ys) (Viable Item) (d ≤ suc (length i)) i (item d (entries d (statement d) false) i)
one_right d i = right_item d (entries d (statement d) false) (right_body d) i

pub right_unit : (d : ℕ) (i : List Numbered) → Right (λ x xs rest. Items x xs × (rest ≡ [])) (Viable Items) (d ≤ suc (length i)) i (unit d i)
unfolding unit
right_unit d i =
    right_items d (entries d (statement d) false) (right_body d) i

pub numbered_length : (n : ℕ) (tokens : List Symbol) → length (numbered_from n tokens) ≡ length tokens
numbered_length n [] = refl
numbered_length n (t ∷ ts) = ap suc (numbered_length (n + 1) ts)

one_list : (i : List Numbered) (x y : SourceItems) → Items x i → Items y i → x ≡ y
one_list i x y p q =
    let d = suc (suc (length i)) in
    let a : unit d i ≡ Got x [] = whole_reads p d (omega arith) in
    let b : unit d i ≡ Got y [] = whole_reads q d (omega arith) in
    let same : Got x [] ≡ Got y [] = sym a ∙ b in cc

same_tree : (x y : SourceTree) → x.items ≡ y.items → x.count ≡ y.count → x ≡ y
same_tree x y items count =
    ap (λ (all : SourceItems). record { items = all; count = x.count }) items ∙ ap (λ (n : ℕ). record { items = y.items; count = n }) count

pub one_tree : OneTree
one_tree tokens x y p q = same_tree x y (one_list (numbered_from 0 tokens) x.items y.items p.items q.items) (p.count ∙ sym q.count)

-- the first of a list of numbered tokens
pub take_numbered : (n : ℕ) (tokens : List Symbol) (xs left : List Numbered) → numbered_from n tokens ≡ xs ++ left → numbered_from n (take (length xs) tokens) ≡ xs
take_numbered n tokens [] left e = refl
take_numbered n [] (x ∷ xs) left e = cc
take_numbered n (t ∷ ts) (x ∷ xs) left e =
    let head : at n t ≡ x = cc in
    let tail : numbered_from (n + 1) ts ≡ xs ++ left = cc in
    let again = take_numbered (n + 1) ts xs left tail in
    cc

pub outcome_right : (d : ℕ) (i : List Numbered) (o : Outcome SourceItems) → unit d i ≡ o → RightOf (λ x xs rest. Items x xs × (rest ≡ [])) (Viable Items) (d ≤ suc (length i)) i o
outcome_right d i o e = subst (λ (z : Outcome SourceItems). RightOf (λ x xs rest. Items x xs × (rest ≡ [])) (Viable Items) (d ≤ suc (length i)) i z) e (right_unit d i).by

pub outcome_local : (d e : ℕ) → d ≤ e → (i : List Numbered) (o : Outcome SourceItems) → unit d i ≡ o → Same i o (unit e)
outcome_local d e le i o is = subst (λ (z : Outcome SourceItems). Same i z (unit e)) is ((local_unit d e le).at i)

-- what is read is the tree
pub whole_got : ReadingGivesTree
whole_got tokens d x rest e =
    let (xs, is, h) = outcome_right d (numbered_from 0 tokens) (Got x rest) e in
    let whole : numbered_from 0 tokens ≡ xs = is ∙ ap (λ (r : List Numbered). xs ++ r) h.1 ∙ append-nil xs in
    record { items = subst (λ (z : List Numbered). Items x z) (sym whole) h.0; count = refl }

-- the depth is never used up
pub whole_deep : (tokens : List Symbol) (d : ℕ) → suc (length tokens) < d → unit d (numbered_from 0 tokens) ≡ Deep → ⊥
whole_deep tokens d lt e = let h : d ≤ suc (length (numbered_from 0 tokens)) = outcome_right d (numbered_from 0 tokens) Deep e in let l = numbered_length 0 tokens in omega arith

pub prefix_of : (tokens : List Symbol) (xs left : List Numbered) → numbered_from 0 tokens ≡ xs ++ left → Viable Items xs → IsPrefix (take (length xs) tokens)
prefix_of tokens xs left e v =
    let first = take (length xs) tokens in
    let (more, x, p) = v (0 + length (take (length xs) tokens)) in
    record {
      more = symbols more;
      spelled = all_spelled more;
      tree = record { items = x; count = length (take (length xs) tokens ++ symbols more) };
      parses = record {
        items =
            subst (λ (z : List Numbered). Items x z)
            (ap (λ (l : List Numbered). l ++ numbered_from (0 + length (take (length xs) tokens)) (symbols more)) (sym (take_numbered 0 tokens xs left e))
            ∙ sym (numbered_append 0 (take (length xs) tokens) (symbols more)))
            p;
        count = refl;
      };
    }

-- No longer list has a tree that begins with the tokens through the place: it would be read, and
-- reading stops there.
dead_of : (tokens : List Symbol) (d : ℕ) (xs r : List Numbered) (s : Numbered) → numbered_from 0 tokens ≡ xs ++ s ∷ r
    → ((e : ℕ) → d ≤ e → (other : List Numbered) → next other ≡ next (s ∷ r) → unit e (xs ++ other) ≡ Stuck other) → IsDead (take (length xs + 1) tokens)
dead_of tokens d xs r s is h more y p =
    let through = take (length xs + 1) tokens in
    let other : List Numbered = s ∷ numbered_from (0 + length (take (length xs + 1) tokens)) more in
    let one : length (xs ++ s ∷ []) ≡ length xs + 1 = length-append xs (s ∷ []) in
    let split : numbered_from 0 tokens ≡ (xs ++ s ∷ []) ++ r = is ∙ sym (append_assoc xs (s ∷ []) r) in
    let known : numbered_from 0 (take (length xs + 1) tokens) ≡ xs ++ s ∷ [] =
    subst (λ (k : ℕ). numbered_from 0 (take k tokens) ≡ xs ++ s ∷ []) one (take_numbered 0 tokens (xs ++ s ∷ []) r split) in
    let whole : numbered_from 0 (take (length xs + 1) tokens ++ more) ≡ xs ++ s ∷ numbered_from (0 + length (take (length xs + 1) tokens)) more =
    numbered_append 0 (take (length xs + 1) tokens) more
    ∙ ap (λ (l : List Numbered). l ++ numbered_from (0 + length (take (length xs + 1) tokens)) more) known
    ∙ append_assoc xs (s ∷ []) (numbered_from (0 + length (take (length xs + 1) tokens)) more) in
    dead_at d xs s r (numbered_from (0 + length (take (length xs + 1) tokens)) more) y.items (subst (λ (z : List Numbered). Items y.items z) whole p.items) h
  where
    dead_at : (d : ℕ) (xs : List Numbered) (s : Numbered) (r after : List Numbered) (all : SourceItems) → Items all (xs ++ s ∷ after)
        → ((e : ℕ) → d ≤ e → (other : List Numbered) → next other ≡ next (s ∷ r) → unit e (xs ++ other) ≡ Stuck other) → ⊥
    dead_at d xs s r after all p h =
        let a : unit (d + suc (suc (length (xs ++ s ∷ after)))) (xs ++ s ∷ after) ≡ Got all [] = whole_reads p (d + suc (suc (length (xs ++ s ∷ after)))) (omega arith) in
        let b : unit (d + suc (suc (length (xs ++ s ∷ after)))) (xs ++ s ∷ after) ≡ Stuck (s ∷ after) = h (d + suc (suc (length (xs ++ s ∷ after)))) (omega arith) (s ∷ after) refl in
        let bad : Got all [] ≡ Stuck (s ∷ after) = sym a ∙ b in cc

place_of : (tokens : List Symbol) (d : ℕ) (xs left : List Numbered) → suc (length tokens) < d → unit d (numbered_from 0 tokens) ≡ Stuck left → numbered_from 0 tokens ≡ xs ++ left → Viable Items xs
    → length xs ≤ length tokens → IsPlace tokens (length xs)
place_of tokens d xs left lt stuck is v within = record {
  within = within;
  prefix = prefix_of tokens xs left is v;
  dead = dead left stuck is;
  none = λ x p.
      let a : unit d (numbered_from 0 tokens) ≡ Got x.items [] = whole_reads p.items d (let l = numbered_length 0 tokens in omega arith) in
      let bad : Got x.items [] ≡ Stuck left = sym a ∙ stuck in cc;
}
  where
    dead : (end : List Numbered) → unit d (numbered_from 0 tokens) ≡ Stuck end → numbered_from 0 tokens ≡ xs ++ end → length xs < length tokens → IsDead (take (length xs + 1) tokens)
    dead [] stops e less = λ more y p. absurd (let l = numbered_length 0 tokens in let m = ap length e in let n = length-append xs [] in omega arith)
    dead (s ∷ r) stops e less =
        dead_of tokens d xs r s e
        (λ k le other same.
        let (ys, is', h) = outcome_local d k le (numbered_from 0 tokens) (Stuck (s ∷ r)) stops in
        let first : ys ≡ xs = append_cancel_right ys xs (s ∷ r) (sym is' ∙ e) in
        subst (λ (z : List Numbered). unit k (z ++ other) ≡ Stuck other) first (h other same))

-- where reading stops is the exact place
pub whole_stuck : (tokens : List Symbol) (d : ℕ) (left : List Numbered) → suc (length tokens) < d → unit d (numbered_from 0 tokens) ≡ Stuck left → IsPlace tokens (length tokens - length left)
whole_stuck tokens d left lt stuck =
    let (xs, is, v) = outcome_right d (numbered_from 0 tokens) (Stuck left) stuck in
    let l = numbered_length 0 tokens in
    let m : length (numbered_from 0 tokens) ≡ length (xs ++ left) = ap length is in
    let n : length (xs ++ left) ≡ length xs + length left = length-append xs left in
    let j : length xs ≡ length tokens - length left = omega arith in
    subst (λ (k : ℕ). IsPlace tokens k) j (place_of tokens d xs left lt stuck is v (omega arith))

-- no more tokens are left than there were
pub whole_left : (tokens : List Symbol) (d : ℕ) (left : List Numbered) → unit d (numbered_from 0 tokens) ≡ Stuck left → length left ≤ length tokens
whole_left tokens d left stuck =
    let (xs, is, v) = outcome_right d (numbered_from 0 tokens) (Stuck left) stuck in
    let l = numbered_length 0 tokens in
    let m : length (numbered_from 0 tokens) ≡ length (xs ++ left) = ap length is in
    let n : length (xs ++ left) ≡ length xs + length left = length-append xs left in
    omega arith

-- reading answers, so there is a tree or a place
pub tree_or_place : TreeOrPlace
tree_or_place tokens = by_outcome (unit (suc (suc (suc (length tokens)))) (numbered_from 0 tokens)) refl
  where
    by_outcome : (o : Outcome SourceItems) → unit (suc (suc (suc (length tokens)))) (numbered_from 0 tokens) ≡ o
        → ((x : SourceTree) × Parses tokens x) ⊎ ((i : ℕ) × IsPlace tokens i)
    by_outcome (Got x rest) is = inl (record { items = x; count = length tokens }, whole_got tokens (suc (suc (suc (length tokens)))) x rest is)
    by_outcome (Stuck left) is = inr (length tokens - length left, whole_stuck tokens (suc (suc (suc (length tokens)))) left (omega arith) is)
    by_outcome Deep is = absurd (whole_deep tokens (suc (suc (suc (length tokens)))) (omega arith) is)
