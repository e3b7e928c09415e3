-- What the reader of a unit gives, by the definitions over the tokens.
use Rattle.std.proofs.Common.{◌≡◌, ℕ, ◌+◌, ◌-◌, ◌<◌, ◌≤◌, false, List, length, map, Result, Ok, Err, sym, ap, subst, ◌∙◌, arith}
use Rattle.std.proofs.lemmas.List.{length-map}
use Rattle.nss_tree.specs.Source.{SourceItems}
use Rattle.nss_symbols.specs.declared.symbol.Seen.{Seen}
use Rattle.nss_symbols.specs.Symbols.{Numbered, numbered_from}
use Rattle.nss_symbols.specs.declared.cursor.Stop.{Stop}
use Rattle.nss_symbols.specs.declared.cursor.Stop.TheVariants.{Syntax, TooDeep}
use Rattle.nss_symbols.specs.Outcome.{Outcome, Got, Stuck, Deep}
use Rattle.nss_symbols.specs.Cursor.{plain_symbol, Reads}
use Rattle.nss_parser.specs.ReadStatement.{entries, statement}
use Rattle.nss_parser.specs.ReadUnit.{items}
use Rattle.nss_parser.specs.ReadWhole.{unit}
use Rattle.nss_parser.specs.Sentence.{Parses, IsPlace}
use Rattle.nss_parser.proofs.Whole as whole

pub reads_ok : {X A : Type 0} (view : X → A) (o : Outcome A) (r : Result X Stop) (new : List Numbered) (x : X) → Reads view o r new → r ≡ Ok x → o ≡ Got (view x) new
reads_ok {X} view o r new x h is = subst (λ (z : Result X Stop). Reads view o z new) is h

pub reads_syntax : {X A : Type 0} (view : X → A) (o : Outcome A) (r : Result X Stop) (new : List Numbered) (e : Stop) → Reads view o r new → r ≡ Err e → e ≡ Syntax → o ≡ Stuck new
reads_syntax {X} view o r new e h is same = subst (λ (z : Result X Stop). Reads view o z new) (is ∙ ap (λ (s : Stop). Err s) same) h

pub reads_deep : {X A : Type 0} (view : X → A) (o : Outcome A) (r : Result X Stop) (new : List Numbered) (e : Stop) → Reads view o r new → r ≡ Err e → e ≡ TooDeep → o ≡ Deep
reads_deep {X} view o r new e h is same = subst (λ (z : Result X Stop). Reads view o z new) (is ∙ ap (λ (s : Stop). Err s) same) h

count_is : (xs : List Seen) → length (map plain_symbol xs) ≡ length xs
count_is xs = length-map xs plain_symbol

pub got_of : (xs : List Seen) (d : ℕ) (x : SourceItems) (v rest : List Numbered) → v ≡ numbered_from 0 (map plain_symbol xs) → items d (entries d (statement d) false) v ≡ Got x rest
    → Parses (map plain_symbol xs) (record { items = x; count = length xs })
unfolding unit
got_of xs d x v rest e h =
    subst (λ (n : ℕ). Parses (map plain_symbol xs) (record { items = x; count = n })) (count_is xs)
    (whole.whole_got (map plain_symbol xs) d x rest (ap (items d (entries d (statement d) false)) (sym e) ∙ h))

pub stuck_of : (xs : List Seen) (d : ℕ) (v left : List Numbered) → v ≡ numbered_from 0 (map plain_symbol xs)
    → length xs + 1 < d → items d (entries d (statement d) false) v ≡ Stuck left
    → IsPlace (map plain_symbol xs) (length xs - length left)
unfolding unit
stuck_of xs d v left e lt h =
    let count = count_is xs in
    subst (λ (k : ℕ). IsPlace (map plain_symbol xs) (k - length left)) count
    (whole.whole_stuck (map plain_symbol xs) d left (omega arith) (ap (items d (entries d (statement d) false)) (sym e) ∙ h))

pub left_of : (xs : List Seen) (d : ℕ) (v left : List Numbered) → v ≡ numbered_from 0 (map plain_symbol xs) → items d (entries d (statement d) false) v ≡ Stuck left → length left ≤ length xs
unfolding unit
left_of xs d v left e h =
    let count = count_is xs in
    let within = whole.whole_left (map plain_symbol xs) d left (ap (items d (entries d (statement d) false)) (sym e) ∙ h) in omega arith

pub deep_of : (xs : List Seen) (d : ℕ) (v : List Numbered) → v ≡ numbered_from 0 (map plain_symbol xs) → length xs + 1 < d → items d (entries d (statement d) false) v ≡ Deep → ⊥
unfolding unit
deep_of xs d v e lt h = let count = count_is xs in whole.whole_deep (map plain_symbol xs) d (omega arith) (ap (items d (entries d (statement d) false)) (sym e) ∙ h)
