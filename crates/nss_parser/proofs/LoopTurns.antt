-- A turn of each loop over a list, by what its calls gave.
use Rattle.std.proofs.Common.{◌≡◌, ℕ, suc, Bool, true, false, List, [], ◌∷◌, ◌++◌, ap, ◌∙◌}
use Rattle.nss_tree.specs.Source.{SourceDeclared, SourceStmt, SourceStmts}
use Rattle.nss_tree.specs.Statements as stmt
use Rattle.nss_tree.specs.Statements.{joined_stmts}
use Rattle.nss_symbols.specs.declared.terminal.Terminal.TheVariants as terminal
use Rattle.nss_symbols.specs.Symbols.{Numbered}
use Rattle.nss_symbols.specs.Outcome.{Outcome, Got, Parser, and_then, branch, sees, take}
use Rattle.nss_parser.specs.ReadDeclaration.{declared, more_declared}
use Rattle.nss_parser.specs.ReadStatement.{entry, entries_from}

pub name_more : (d t n : ℕ) (all : List SourceDeclared) (x : SourceDeclared) (i j r : List Numbered) → sees terminal.Comma i ≡ true → take i ≡ Got n j → declared d j ≡ Got x r
    → more_declared d (suc t) all i ≡ more_declared d t (all ++ x ∷ []) r
name_more d t n all x i j r comma taken e =
    ap (λ (b : Bool). branch b (λ k. and_then (take k) (λ m k'. and_then (declared d k') (λ y. more_declared d t (all ++ y ∷ [])))) (λ k. Got all k) i) comma
    ∙ ap (λ (z : Outcome ℕ). and_then z (λ m k'. and_then (declared d k') (λ y. more_declared d t (all ++ y ∷ [])))) taken
    ∙ ap (λ (z : Outcome SourceDeclared). and_then z (λ y. more_declared d t (all ++ y ∷ []))) e

pub entry_more : (d t : ℕ) (statement : Parser SourceStmt) (labels : Bool) (all : SourceStmts) (s : SourceStmt)
    (i r : List Numbered) → sees terminal.CloseBrace i ≡ false → entry d statement labels i ≡ Got s r
    → entries_from d statement labels (suc t) all i ≡ entries_from d statement labels t (joined_stmts all (stmt.more_stmts s stmt.no_stmt)) r
entry_more d t statement labels all s i r brace e =
    ap (λ (b : Bool). branch b (λ k. and_then (take k) (λ m k'. Got all k'))
    (λ k. and_then (entry d statement labels k)
    (λ y. entries_from d statement labels t (joined_stmts all (stmt.more_stmts y stmt.no_stmt)))) i) brace
    ∙ ap (λ (z : Outcome SourceStmt). and_then z (λ y. entries_from d statement labels t (joined_stmts all (stmt.more_stmts y stmt.no_stmt)))) e
