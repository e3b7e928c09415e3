-- A turn of each loop over a list, by what its calls gave.
use Rattle.std.proofs.Common.{◌≡◌, ◌∙◌, ℕ, suc, Bool, true, false, List, [], ◌∷◌, ◌++◌, Option, None, Some, refl, sym, ap}
use Rattle.nss_tree.specs.Source.{SourceItem, SourceItems, SourceLine, SourceParameter, SourceStmts}
use Rattle.nss_tree.specs.declared.units.Identifier.{Identifier}
use Rattle.nss_symbols.specs.declared.terminal.Terminal.TheVariants as terminal
use Rattle.nss_symbols.specs.Symbols.{Symbol, Numbered}
use Rattle.nss_symbols.specs.Outcome.{Outcome, Got, Parser, and_then, branch, sees, first, take, expect}
use Rattle.nss_parser.specs.ReadDeclaration.{identifier}
use Rattle.nss_parser.specs.ReadUnit.{more_fields, field, fields_from, parameter, parameters_from, is_end, item, items_by, items_from, after_struct, constant_line, typed_item}

pub field_more : (t n : ℕ) (all : List Identifier) (x : Identifier) (i j r : List Numbered) → sees terminal.Comma i ≡ true → take i ≡ Got n j → identifier j ≡ Got x r
    → more_fields (suc t) all i ≡ more_fields t (all ++ x ∷ []) r
field_more t n all x i j r comma taken e =
    ap (λ (b : Bool). branch b (λ k. and_then (take k) (λ m k'. and_then (identifier k') (λ y. more_fields t (all ++ y ∷ [])))) (λ k. Got all k) i) comma
    ∙ ap (λ (z : Outcome ℕ). and_then z (λ m k'. and_then (identifier k') (λ y. more_fields t (all ++ y ∷ [])))) taken
    ∙ ap (λ (z : Outcome Identifier). and_then z (λ y. more_fields t (all ++ y ∷ []))) e

pub fields_more : (d t : ℕ) (all : List SourceLine) (x : SourceLine) (i r : List Numbered) → field d i ≡ Got x r → sees terminal.CloseBrace r ≡ false
    → fields_from d (suc t) all i ≡ fields_from d t (all ++ x ∷ []) r
fields_more d t all x i r e brace =
    ap (λ (z : Outcome SourceLine). and_then z (λ y k. branch (sees terminal.CloseBrace k) (λ k'. and_then (take k') (λ m k''. Got (all ++ y ∷ []) k'')) (fields_from d t (all ++ y ∷ [])) k)) e
    ∙ ap (λ (b : Bool). branch b (λ k'. and_then (take k') (λ m k''. Got (all ++ x ∷ []) k'')) (fields_from d t (all ++ x ∷ [])) r) brace

pub parameters_more : (t n : ℕ) (all : List SourceParameter) (x : SourceParameter) (i j r : List Numbered) → parameter i ≡ Got x j → sees terminal.Comma j ≡ true → take j ≡ Got n r
    → parameters_from (suc t) all i ≡ parameters_from t (all ++ x ∷ []) r
parameters_more t n all x i j r e comma taken =
    ap (λ (z : Outcome SourceParameter). and_then z
    (λ y k. branch (sees terminal.Comma k) (λ k'. and_then (take k') (λ m. parameters_from t (all ++ y ∷ [])))
    (λ k'. and_then (expect terminal.Close k') (λ m k''. Got (all ++ y ∷ []) k'')) k)) e
    ∙ ap (λ (b : Bool). branch b (λ k'. and_then (take k') (λ m. parameters_from t (all ++ x ∷ []))) (λ k'. and_then (expect terminal.Close k') (λ m k''. Got (all ++ x ∷ []) k'')) j) comma
    ∙ ap (λ (z : Outcome ℕ). and_then z (λ m. parameters_from t (all ++ x ∷ []))) taken

more_by : (d t : ℕ) (entries : Parser SourceStmts) (all : SourceItems) (x : SourceItem) (o : Option Symbol) (i r : List Numbered) → is_end o ≡ false → item d entries i ≡ Got x r
    → items_by d entries (items_from d entries t) all o i ≡ items_from d entries t (all ++ x ∷ []) r
more_by d t entries all x None i r left e = cc
more_by d t entries all x (Some s) i r left e = ap (λ (z : Outcome SourceItem). and_then z (λ y. items_from d entries t (all ++ y ∷ []))) e

pub items_more : (d t : ℕ) (entries : Parser SourceStmts) (all : SourceItems) (x : SourceItem) (i r : List Numbered) → is_end (first i) ≡ false → item d entries i ≡ Got x r
    → items_from d entries (suc t) all i ≡ items_from d entries t (all ++ x ∷ []) r
items_more d t entries all x i r left e = more_by d t entries all x (first i) i r left e

end_by : (d t : ℕ) (entries : Parser SourceStmts) (all : SourceItems) (o : Option Symbol) (i : List Numbered) → is_end o ≡ true
    → items_by d entries (items_from d entries t) all o i ≡ Got all i
end_by d t entries all None i e = refl
end_by d t entries all (Some s) i e = cc

pub items_end : (d t : ℕ) (entries : Parser SourceStmts) (all : SourceItems) (i : List Numbered) → is_end (first i) ≡ true → items_from d entries (suc t) all i ≡ Got all i
items_end d t entries all i e = end_by d t entries all (first i) i e

-- neither a struct nor a const line
pub item_typed : (d : ℕ) (entries : Parser SourceStmts) (i : List Numbered) → sees terminal.Struct i ≡ false → sees terminal.Const i ≡ false → typed_item d entries i ≡ item d entries i
unfolding item
item_typed d entries i struct const =
    sym (ap (λ (b : Bool). branch b (after_struct d entries) (λ k. branch (sees terminal.Const k) constant_line (typed_item d entries) k) i) struct
    ∙ ap (λ (b : Bool). branch b constant_line (typed_item d entries) i) const)
